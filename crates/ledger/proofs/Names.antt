-- Whether a text is a lawful name can be decided.
use Rattle.std.proofs.Common.{◌≡◌, ℕ, zero, suc, ◌<◌, Bool, true, false, ◌⊎◌, List, length, get_or, inl, inr, arith}
use Rattle.std.proofs.lemmas.Bool.{cases_Bool, cases_lt, cases_eq, both_ways}
use Rattle.naming.specs.Name.{allowed, Lawful}

-- A test that holds at each place below n, or fails at one.
each_or_fails : (test : ℕ → Bool) (n : ℕ) → ((k : ℕ) → k < n → test k ≡ true) ⊎ ((k : ℕ) × ((k < n) × (test k ≡ false)))
each_or_fails test zero = inl (λ k less. absurd (omega arith))
each_or_fails test (suc n) =
    elim (each_or_fails test n) [
      | inl each ↦ elim (cases_Bool (test n)) [
        | inl t ↦ inl (λ k less. elim (cases_eq k n) [ inl e ↦ rw e t | inr ne ↦ each k (omega arith) ])
        | inr f ↦ inr (n, (omega arith, f))
      ]
      | inr fails ↦ inr (fails.0, (omega (arith, fails.1.0), fails.1.1))
    ]

pub lawful_or_not : (text : List ℕ) → Lawful text ⊎ (Lawful text → ⊥)
lawful_or_not text =
    elim (cases_lt 0 (length text)) [
      | inr none ↦ inr (λ l. omega (arith, l.0))
      | inl some ↦ elim (cases_lt 24 (length text)) [
        | inl long ↦ inr (λ l. omega (arith, l.1))
        | inr short ↦ elim (cases_eq (get_or text 0 0) 46) [
          | inl dot ↦ inr (λ l. l.3 dot)
          | inr plain ↦ elim (each_or_fails (λ k. allowed (get_or text k 0)) (length text)) [
            | inl each ↦ inl (omega arith, short, each, plain)
            | inr fails ↦ inr (λ l. both_ways (allowed (get_or text fails.0 0)) fails.1.1 (l.2 fails.0 fails.1.0))
          ]
        ]
      ]
    ]

pub lawful_unless : (text : List ℕ) → ((Lawful text → ⊥) → ⊥) → Lawful text
lawful_unless text not-not = elim (lawful_or_not text) [ inl l ↦ l | inr n ↦ absurd (not-not n) ]
