-- The places of references: the hashes stand in front, and what follows them is blank.
use Rattle.std.proofs.Common.{◌≡◌, ℕ, ◌+◌, ◌-◌, List, [], ◌∷◌, ◌++◌, length, drop, set, replicate, sym, refl, ap, ap₂, ◌∙◌, subst, arith}
use Rattle.std.proofs.lemmas.List.{drop_at, drop-drop, drop-map, drop-replicate, drop-set-lt, length-take-le, take-append-drop}
use Rattle.naming.specs.Laws.{same_hash}
use Rattle.naming.specs.declared.hash.Hash.{Hash}
use Rattle.records.specs.Blank.{blank, bytes_each}
use Rattle.records.specs.Laws.{same_references}
use Rattle.records.specs.View.{listed}
use Rattle.records.specs.declared.references.References.{References}

abbrev pub BlankFrom : ℕ → List Hash → Type 0
BlankFrom n hs = bytes_each (drop n hs) ≡ replicate (8 - n) blank

pub blank_later : (n m : ℕ) (hs : List Hash) → BlankFrom n hs → BlankFrom (n + m) hs
blank_later n m hs rest =
    let fewer : 8 - n - m ≡ 8 - (n + m) = omega arith in
    ap bytes_each (sym (drop-drop m n hs)) ∙ sym (drop-map (λ h. h.bytes) m (drop n hs)) ∙ ap (drop m) rest
    ∙ drop-replicate m (8 - n) blank ∙ ap (λ k. replicate k blank) fewer

-- One more hash is written.
pub blank_more : (n : ℕ) (hs : List Hash) (h : Hash) → BlankFrom n hs → BlankFrom (n + 1) (set hs n h)
blank_more n hs h rest = ap bytes_each (drop-set-lt (n + 1) hs n h (omega arith)) ∙ blank_later n 1 hs rest

pub listed_length : (r : References) → length (listed r) ≡ r.count
listed_length r = length-take-le r.count r.hashes (omega (arith, r.few, r.whole))

-- References of which none is listed have all places blank.
pub all_blank : (refs : References) → listed refs ≡ [] → (n : ℕ) → BlankFrom n refs.hashes
all_blank refs none n =
    let start : refs.count ≡ 0 = sym (listed_length refs) ∙ ap length none in
    let same : 0 + n ≡ n = omega arith in
    subst (λ k. BlankFrom k refs.hashes) same (blank_later 0 n refs.hashes (subst (λ k. BlankFrom k refs.hashes) start refs.rest))

-- As many hashes as these stand before the places that are left.
pub blank_after : (ys hs all : List Hash) → ys ≡ hs → BlankFrom (length hs) all → BlankFrom (length hs) (ys ++ drop (length hs) all)
blank_after ys hs all same rest = ap bytes_each (drop_at ys (drop (length hs) all) (length hs) (ap length same)) ∙ rest

-- References that list the same hashes are equal.
abbrev front : List (List ℕ) → List ℕ
front [] = []
front (x ∷ xs) = x

same_each : (gs hs : List Hash) → bytes_each gs ≡ bytes_each hs → gs ≡ hs
same_each [] [] e = refl
same_each [] (h ∷ hs) e = absurd (omega (arith, ap length e))
same_each (g ∷ gs) [] e = absurd (omega (arith, ap length e))
same_each (g ∷ gs) (h ∷ hs) e = ap₂ ◌∷◌ (same_hash g h (ap front e)) (same_each gs hs (ap (drop 1) e))

pub same_listed : (r s : References) → listed r ≡ listed s → r ≡ s
same_listed r s e =
    let many : r.count ≡ s.count = sym (listed_length r) ∙ ap length e ∙ listed_length s in
    let after = same_each (drop r.count r.hashes) (drop s.count s.hashes) (r.rest ∙ ap (λ n. replicate (8 - n) blank) many ∙ sym s.rest) in
    same_references r s many (sym (take-append-drop r.count r.hashes) ∙ ap₂ ◌++◌ e after ∙ take-append-drop s.count s.hashes)
