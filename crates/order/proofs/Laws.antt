-- What follows from the law of an order.
use Rattle.std.proofs.Common.{◌≡◌, ℕ, Ordering, Less, Equal, Greater, sym, refl, ap, ◌∙◌, arith}
use Rattle.std.specs.Cmp.{IsTotalOrder}
use Rattle.std.specs.Ordering.{ordering_reverse}
use Rattle.order.specs.Law.{Lawful, Before, After}

module _ {X : Type 0} (cmp : X → X → Ordering) (law : Lawful cmp) where
  one_way : (o : Ordering) → o ≡ Greater → ordering_reverse o ≡ Greater → ⊥
  one_way Less e f = let z : ◌≡◌ {A = ℕ} 0 1 = cc in omega arith
  one_way Equal e f = let z : ◌≡◌ {A = ℕ} 0 1 = cc in omega arith
  one_way Greater e f = let z : ◌≡◌ {A = ℕ} 0 1 = cc in omega arith

  pub after_once : (x y : X) → After cmp x y → After cmp y x → ⊥
  after_once x y h k = one_way (cmp x y) h (sym (law.turned x y) ∙ k)

  pub after_turned : (x y : X) → After cmp x y → Before cmp y x
  after_turned x y h = law.turned x y ∙ ap ordering_reverse h

  pub before_turned : (x y : X) → Before cmp x y → After cmp y x
  before_turned x y h = law.turned x y ∙ ap ordering_reverse h

  carried : (x y z : X) (o : Ordering) → cmp x y ≡ o → Before cmp y z → (o ≡ Greater → ⊥) → Before cmp x z
  carried x y z Less e less no_more = law.before x y z e less
  carried x y z Equal e less no_more = sym (law.level x y z e) ∙ less
  carried x y z Greater e less no_more = absurd (no_more refl)

  -- What comes after y comes after everything that does not come after y.
  pub after_more : (x y z : X) → After cmp z y → (After cmp x y → ⊥) → After cmp z x
  after_more x y z more no_more =
      before_turned x z (carried x y z (cmp x y) refl (after_turned z y more) no_more)

-- A lawful order of keys makes one of the elements that have the keys.
pub lawful_by : {K X : Type 0} {R : K → K → Ordering} (o : IsTotalOrder R) (key : X → K) → Lawful (λ (x y : X). R (key x) (key y))
lawful_by o key = record {
  turned = λ x y. o.antisymm (key y) (key x);
  level = λ x y z e. sym (o.congr (key x) (key y) (key z) e);
  before = λ x y z. o.trans (key x) (key y) (key z);
}

-- What answers as a lawful order does is one.
pub lawful_alike : {X : Type 0} (f g : X → X → Ordering) → ((x y : X) → f x y ≡ g x y) → Lawful g → Lawful f
lawful_alike f g same law = record {
  turned = λ x y. same y x ∙ law.turned x y ∙ ap ordering_reverse (sym (same x y));
  level = λ x y z e. same y z ∙ law.level x y z (sym (same x y) ∙ e) ∙ sym (same x z);
  before = λ x y z e d. same x z ∙ law.before x y z (sym (same x y) ∙ e) (sym (same y z) ∙ d);
}
