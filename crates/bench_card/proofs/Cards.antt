-- A bench card is a disk.
use Rattle.std.proofs.Common.{◌≡◌, ℕ, ◌+◌, ◌/◌, ◌<◌, min, Bool, true, false, not, List, length, Result, sym, refl, ap, ◌∙◌, inl, inr, arith}
use native.Mathlib.Decide.{ℕ_discrete}
use Rattle.disk.specs.declared.Fault.{Fault}
use Rattle.disk.specs.Meaning.{Block, Sound, Write, Written, Torn, GainsOnly}
use Rattle.disk.specs.Row.{blocks_in, block_of, with_block}
use Rattle.disk.proofs.Rows.{block_whole, with_length, with_here, with_other}
use Rattle.bench_card.specs.declared.supply.Supply.{Supply}
use Rattle.bench_card.specs.Card.{card_size, card_means, bench, strikes, spent, outcome}

pub bench_sound : (row : List ℕ) (lit : Bool) → Sound (bench (card_size row) row lit)
bench_sound row lit = record {
  few = omega arith;
  whole = λ k less. block_whole row k (omega arith);
  whole_found = λ k y less either. elim either [
    | inl same ↦ ap length same ∙ block_whole row k (omega arith)
    | inr same ↦ ap length same ∙ block_whole row (card_size row + k) (omega arith)
  ];
  found = λ _ _ _. inl refl;
  some = λ k _. (block_of row k, inl refl);
}

-- A row of the same length has as many blocks.
same_size : (row row' : List ℕ) → length row' ≡ length row → card_size row' ≡ card_size row
same_size row row' same = ap (λ l. min (l / 512) 4294967296) same

-- A block that the card has, replaced.
module _ (row : List ℕ) (b : ℕ) (x : Block) (whole : length x ≡ 256) (within : b < card_size row) where
  abbrev n : ℕ
  n = card_size row

  abbrev after : List ℕ
  after = with_block row b x

  in_row : b < blocks_in row
  in_row = omega arith

  pub size_after : card_size after ≡ card_size row
  size_after = same_size row after (with_length row b x whole in_row)

  gains_after : (lit lit' : Bool) → GainsOnly b x (bench n row lit) (bench n after lit')
  gains_after lit lit' k y less (inl same) = elim (ℕ_discrete k b) [
    | yes here ↦ inr (here, same ∙ ap (block_of after) here ∙ with_here row b x whole in_row)
    | no other ↦ inl (inl (same ∙ with_other row b x whole in_row k other))
  ]
  gains_after lit lit' k y less (inr same) = inl (inr (same ∙ with_other row b x whole in_row (n + k) (λ e. absurd (omega arith))))

  -- The write as a whole: what is stored, and what the supply then says.
  module _ (s s' : Supply) (row' : List ℕ) (lit : s.lit ≡ true) (stored : row' ≡ after) (counted : s' ≡ spent s) where
    write_done : strikes s ≡ false → Written (card_means row s) b x (card_means row' s')
    write_done goes_on = rw stored (rw size_after record {
      was = lit;
      within = within;
      size = refl;
      light = ap (λ t. t.lit) counted ∙ ap not goes_on;
      here = with_here row b x whole in_row;
      others = λ k _. with_other row b x whole in_row k;
      gains = gains_after s.lit s'.lit;
    })

    write_torn : strikes s ≡ true → Torn (card_means row s) b x (card_means row' s')
    write_torn ends = rw stored (rw size_after record {
      was = lit;
      within = within;
      size = refl;
      dark = ap (λ t. t.lit) counted ∙ ap not ends;
      gains = gains_after s.lit s'.lit;
    })

    told : (ends : Bool) → ends ≡ strikes s → Write (card_means row s) b x (outcome ends) (card_means row' s')
    told true is = inr (write_torn (sym is))
    told false is = write_done (sym is)

    -- The promise of a write, whether or not the power goes in it.
    pub write_told : (r : Result Unit Fault) → r ≡ outcome (strikes s) → Write (card_means row s) b x r (card_means row' s')
    write_told r answer = rw answer (told (strikes s) refl)
