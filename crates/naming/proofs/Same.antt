-- Equal texts are equal names.
use Rattle.std.proofs.Common.{◌≡◌, ◌-◌, ◌++◌, length, replicate, sym, ap, ◌∙◌, ap₂, arith}
use Rattle.std.proofs.lemmas.List.{length-take-le, take-append-drop}
use Rattle.naming.specs.Laws.{same_name}
use Rattle.naming.specs.Texts.{name_text}
use Rattle.naming.specs.declared.name.Name.{Name}

pub text_length : (n : Name) → length (name_text n) ≡ n.len
text_length n = length-take-le n.len n.bytes (omega (arith, n.fits, n.whole))

-- Equal texts are equal names.
pub same_text : (m n : Name) → name_text m ≡ name_text n → m ≡ n
same_text m n e =
    let long : m.len ≡ n.len = sym (text_length m) ∙ ap length e ∙ text_length n in
    same_name m n long
    (sym (take-append-drop m.len m.bytes)
    ∙ ap₂ ◌++◌ e (m.rest ∙ ap (λ k. replicate (24 - k) 0) long ∙ sym n.rest)
    ∙ take-append-drop n.len n.bytes)
