-- The rules of a registration that look at every other path.
use Rattle.std.proofs.Common.{◌≡◌, ℕ, ◌+◌, ◌<◌, max, Bool, true, false, not, ◌&&◌, ◌||◌, ltb, List, [], map, length, get_or, Decides, sym, ap, ◌∙◌, inl, inr, arith}
use Rattle.std.specs.List.{list_all, list_any}
use Rattle.std.specs.Str.{bytes_eq}
use Rattle.std.proofs.lemmas.List.{get_or_default}
use Rattle.std.proofs.lemmas.Bool.{ltb-true, lt-ltb, and_parts, and_from, both_ways, not-true, not_from_false, not-false, cases_Bool}
use Rattle.model.specs.Plain.{Path, Span, no_path, run}
use Rattle.model.specs.Fits.{any, Apart, Within, has_hash}
use Rattle.model.proofs.Chains.{none_at}
use Rattle.naming.specs.declared.hash.Hash.{Hash}
use Rattle.records.specs.Runs.{meets, ApartFromAll, KnownAll}
use Rattle.records.specs.declared.records.PathRecord.{PathRecord}
use Rattle.records.specs.View.{bytes_of, listed, path_of}
use Rattle.records.proofs.Finds.{unmet_all, all_is, any_map, mapped_any}

pub meets_shares : (s t : Span) → meets s t ≡ true → Apart s t → ⊥
meets_shares s t e apart =
    let both = and_parts (ltb 0 s.count && ltb 0 t.count) (ltb s.start (t.start + t.count) && ltb t.start (s.start + s.count)) e in
    let some = and_parts (ltb 0 s.count) (ltb 0 t.count) both.0 in
    let cross = and_parts (ltb s.start (t.start + t.count)) (ltb t.start (s.start + s.count)) both.1 in
    let a = ltb-true 0 s.count some.0 in
    let b = ltb-true 0 t.count some.1 in
    let p = ltb-true s.start (t.start + t.count) cross.0 in
    let q = ltb-true t.start (s.start + s.count) cross.1 in
    apart (max s.start t.start) (omega arith, omega arith) (omega arith, omega arith)

pub shares_meets : (s t : Span) (x : ℕ) → Within s x → Within t x → meets s t ≡ true
shares_meets s t x i j =
    and_from (ltb 0 s.count && ltb 0 t.count) (ltb s.start (t.start + t.count) && ltb t.start (s.start + s.count))
    (and_from (ltb 0 s.count) (ltb 0 t.count) (lt-ltb 0 s.count (omega (arith, i.0, i.1))) (lt-ltb 0 t.count (omega (arith, j.0, j.1))))
    (and_from (ltb s.start (t.start + t.count)) (ltb t.start (s.start + s.count))
    (lt-ltb s.start (t.start + t.count) (omega (arith, i.0, j.1)))
    (lt-ltb t.start (s.start + s.count) (omega (arith, j.0, i.1))))

-- No element passes the test exactly where P holds of each.
pub decides_none : {X : Type 0} (test : X → Bool) (P : X → Type 0) (xs : List X) (d : X)
    → ((x : X) → test x ≡ false → P x) → ((x : X) → test x ≡ true → P x → ⊥)
    → Decides (not (any test xs)) ((k : ℕ) → k < length xs → P (get_or xs k d))
decides_none test P xs d passes fails = (
  λ e k less. passes (get_or xs k d) (none_at test xs d k (not-true (any test xs) e) less),
  λ all.
      not_from_false (any test xs)
      (unmet_all test xs (length xs) (omega arith)
      (λ k e less.
      let at = get_or_default xs k e d less in
      elim (cases_Bool (test (get_or xs k d))) [
        | inl yes-one ↦ absurd (fails (get_or xs k d) yes-one (all k less))
        | inr no_one ↦ ap test at ∙ no_one
      ])),
)

pub decides_apart : (p : Path) (paths : List Path) → Decides (not (any (λ q. meets (run p) (run q)) paths)) (ApartFromAll paths p)
decides_apart p paths =
    decides_none (λ q. meets (run p) (run q)) (λ q. Apart (run p) (run q)) paths no_path
    (λ q e x i j. both_ways (meets (run p) (run q)) e (shares_meets (run p) (run q) x i j))
    (λ q. meets_shares (run p) (run q))

pub decides_known : (p : Path) (paths : List Path)
    → Decides (not (any (λ h. not (has_hash h paths || bytes_eq p.hash h)) p.refs)) (KnownAll paths p)
decides_known p paths =
    let known : List ℕ → Bool = λ h. has_hash h paths || bytes_eq p.hash h in
    decides_none (λ h. not (known h)) (λ h. known h ≡ true) p.refs []
    (λ h e. not-false (known h) e) (λ h e yes-one. both_ways (known h) (not-true (known h) e) yes-one)

-- What the code's tests decide.
pub apart_decided : (p : Path) (s : Span) (paths : List PathRecord) (r : Bool) → s ≡ run p → r ≡ list_any (λ q. meets s (run (path_of q))) paths
    → Decides (not r) (ApartFromAll (map path_of paths) p)
apart_decided p s paths r is found =
    let told : r ≡ any (λ q. meets (run p) (run q)) (map path_of paths) =
    (rw is at found) ∙ mapped_any path_of (λ q. meets (run p) (run q)) paths in
    rw told (decides_apart p (map path_of paths))

pub known_decided : (p : PathRecord) (paths : List Path) (hashes : List Hash) (r : Bool) → hashes ≡ listed p.refs
    → r ≡ list_all (λ h. has_hash h.bytes paths || bytes_eq p.hash.bytes h.bytes) hashes
    → Decides r (KnownAll paths (path_of p))
known_decided p paths hashes r is found =
    let told : r ≡ not (any (λ h. not (has_hash h paths || bytes_eq p.hash.bytes h)) (map bytes_of (listed p.refs))) =
    (rw is at found) ∙ all_is (λ h. has_hash h.bytes paths || bytes_eq p.hash.bytes h.bytes) (listed p.refs)
    ∙ ap not (sym (any_map bytes_of (λ h. not (has_hash h paths || bytes_eq p.hash.bytes h)) (listed p.refs))) in
    rw told (decides_known (path_of p) paths)

pub decides_both : {A B : Type 0} (r : Bool) → A → Decides r B → Decides r (A × B)
decides_both r a b = (λ e. (a, b.0 e), λ ab. b.1 ab.1)
