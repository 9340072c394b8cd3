use Rattle.std.proofs.Common.{rules, ◌≤◌, [], ◌∷◌, map, length, sym, ap, ◌∙◌, subst, arith}
use Rattle.std.proofs.lemmas.List.{length-map}
use Rattle.naming.specs.Texts.{name_text}
use Rattle.naming.proofs.Same.{text_length}
use Rattle.records.specs.View.{bytes_of, listed, path_of}
use Rattle.card.specs.Fields.{field}
use Rattle.card.specs.Written.{Wrote, WroteHashes}
use Rattle.card.proofs.Numbers.{wrote_four}
use Rattle.card.proofs.Paths.{path_clean, path_says}
use Rattle.card.proofs.Writes.{zero_blank}
use Rattle.card.proofs.encoding.path_fields.Goals as goal

pub returns : goal.returns
returns c =
    let path = c.args.path.now in
    let short : length (name_text path.name) ≤ 24 = omega (arith, text_length path.name, path.name.fits) in
    let count = ap length c.as_slice-hashes.ensures ∙ sym (length-map (listed path.refs) bytes_of) in
    let name_length = subst (λ t. Wrote (field 21 1) (length t ∷ []) c.put-2.new.block c.put-3.new.block) c.as_bytes-name.ensures c.put-3.ensures in
    let name = subst (λ t. Wrote (field 22 (length t)) t c.put-3.new.block c.put-4.new.block) c.as_bytes-name.ensures c.put-4.ensures in
    let reference_count = subst (λ n. Wrote (field 54 1) (n ∷ []) c.put-6.new.block c.put-7.new.block) count c.put-7.ensures in
    let references =
    subst (λ hs. WroteHashes (map bytes_of hs) c.put-7.new.block c.put_references.new.block) c.as_slice-hashes.ensures c.put_references.ensures
    in
    let size = wrote_four 46 path.size _ _ _ (search rules) c.to_le_bytes.ensures c.put-5.ensures in
    let first = wrote_four 50 path.first _ _ _ (search rules) c.to_le_bytes-2.ensures c.put-6.ensures in
    record {
      says =
          path_says (path_of path) _ _ _ _ _ _ _ _ _ (zero_blank 256) path.hash.whole short c.put.ensures c.put-2.ensures name_length name
          size first reference_count references;
      clean =
          path_clean (path_of path) _ _ _ _ _ _ _ _ _ (zero_blank 256) path.hash.whole short c.put.ensures c.put-2.ensures name_length name
          size first reference_count references;
    }
