-- Hashes in hash order, pair by pair.
use Rattle.std.proofs.Common.{◌≡◌, ℕ, ◌+◌, ◌<◌, ◌≤◌, Bool, true, false, List, [], map, length, get_or, Decides, sym, ap, ◌∙◌, arith}
use Rattle.std.specs.List.{IsAllAdjacentAnswer}
use Rattle.std.specs.Ordering.{is_lt, nat_cmp}
use Rattle.std.proofs.slice.Orders.{nat_cmp-ltb}
use Rattle.std.proofs.lemmas.Bool.{ltb-false, ltb-true}
use Rattle.std.proofs.lemmas.List.{get_or-map, length-map}
use Rattle.naming.specs.declared.hash.Hash.{Hash}
use Rattle.naming.specs.Hash.{number_of}
use Rattle.model.specs.Fits.{Climbing}
use Rattle.records.specs.View.{bytes_of}
use Rattle.records.proofs.Finds.{decides_yes, decides_no, some_of}

abbrev pub before : Hash → Hash → Bool
before g h = is_lt (nat_cmp (number_of g.bytes) (number_of h.bytes))

module _ (hs : List Hash) where
  read : (k : ℕ) (d : Hash) → k < length hs → number_of (get_or (map bytes_of hs) k []) ≡ number_of (get_or hs k d).bytes
  read k d less = ap number_of (get_or-map bytes_of hs k d [] less)

  pub climbing_told : (r : Bool) → IsAllAdjacentAnswer (λ g h b. b ≡ before g h) hs r → Decides r (Climbing (map bytes_of hs))
  climbing_told true up =
      decides_yes (λ k less.
      let long = length-map hs bytes_of in
      let d = some_of hs k (omega arith) in
      let a = number_of (get_or hs k d).bytes in
      let b = number_of (get_or hs (k + 1) d).bytes in
      let told : a < b = ltb-true a b (sym (nat_cmp-ltb a b) ∙ sym (up k d (omega arith))) in
      omega (arith, read k d (omega arith), read (k + 1) d (omega arith)))
  climbing_told false (k, less, fails) =
      decides_no (λ all.
      let long = length-map hs bytes_of in
      let d = some_of hs k (omega arith) in
      let a = number_of (get_or hs k d).bytes in
      let b = number_of (get_or hs (k + 1) d).bytes in
      let told : b ≤ a = ltb-false a b (sym (nat_cmp-ltb a b) ∙ sym (fails d)) in
      omega (arith, all k (omega arith), read k d (omega arith), read (k + 1) d (omega arith)))
