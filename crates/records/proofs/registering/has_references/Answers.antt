use Rattle.std.proofs.Common.{◌||◌, List, map, refl, subst, rules, tests}
use Rattle.std.proofs.lemmas.Iterator.{YieldsList-from_slice}
use Rattle.std.proofs.lemmas.Iterator.Search.{all_from_yields_List}
use Rattle.std.specs.Str.{bytes_eq}
use Rattle.naming.specs.declared.hash.Hash.{Hash}
use Rattle.model.specs.Fits.{Climbing, has_hash}
use Rattle.records.specs.View.{bytes_of, path_of}
use Rattle.records.proofs.Apart.{known_decided, decides_both}
use Rattle.records.proofs.registering.has_references.Goals as goal

pub returns-then-is_climbing : goal.returns-then-is_climbing
returns-then-is_climbing c =
    let is = c.as_slice-hashes.ensures in
    let hashes = c.as_slice-hashes.result.now in
    let own = c.args.path.now.hash.bytes in
    let paths = map path_of c.args.paths.now in
    let Up : List Hash → Type 0 = λ hs. Climbing (map bytes_of hs) in
    decides_both c.all.result (subst Up is (c.if-is_climbing.ensures.0 refl))
    (known_decided c.args.path.now paths hashes c.all.result is
    (all_from_yields_List (λ h. has_hash h.bytes paths || bytes_eq own h.bytes) _ _ c.all.result c.all.ensures.ran (YieldsList-from_slice hashes cc) (λ x b q k. search (rules, tests))))
