-- The law of an order. What `cmp x y` says of two elements is one of three: x comes before y, is level with it, or comes after.
use Rattle.std.specs.Prelude.{◌≡◌}
use Rattle.std.specs.declared.cmp.Ordering.TheVariants.{Less, Equal, Greater}
use Rattle.std.specs.declared.cmp.Ordering.{Ordering}
use Rattle.std.specs.Ordering.{ordering_reverse}

module _ {X : Type 0} (cmp : X → X → Ordering) where
  abbrev pub Before : X → X → Type 0
  Before x y = cmp x y ≡ Less

  abbrev pub Level : X → X → Type 0
  Level x y = cmp x y ≡ Equal

  abbrev pub After : X → X → Type 0
  After x y = cmp x y ≡ Greater

  pub record Lawful : Type 0 where
    -- turned round, before is after
    pub turned : (x y : X) → cmp y x ≡ ordering_reverse (cmp x y)
    -- what is level with x stands to every third element as x does
    pub level : (x y z : X) → Level x y → cmp y z ≡ cmp x z
    pub before : (x y z : X) → Before x y → Before y z → Before x z
