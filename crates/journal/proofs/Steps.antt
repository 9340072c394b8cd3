-- What each call of an append does to a card that is backed.
use Rattle.std.proofs.Common.{◌≡◌, ℕ, ◌+◌, ◌<◌, ◌≤◌, true, false, ◌⊎◌, List, length, get_or, Ok, Err, sym, refl, ap, ◌∙◌, subst, inl, inr, arith}
use Rattle.disk.specs.declared.Fault.{Fault}
use Rattle.disk.specs.declared.Fault.TheVariants.{Dark, NoBlock}
use Rattle.disk.specs.Meaning.{Meaning}
use Rattle.model.specs.Plain.{Catalogue, Entry}
use Rattle.model.specs.Listing.{listing}
use Rattle.model.specs.Standing as model
use Rattle.card.specs.Label.{Half, InRange, Labels}
use Rattle.journal.specs.Blocks.{no_entry}
use Rattle.journal.specs.Backed.{other, IsEntry, next_half, Backed}
use Rattle.journal.specs.Steps.{SettledWith, CutWith, DataKept}
use Rattle.journal.specs.View.{start_of, half_with}
use Rattle.journal.specs.Appends.{EntryPut, Listed, ListsInto, ListingDone}
use Rattle.journal.specs.declared.place.Place.{Place}
use Rattle.journal.specs.declared.place.Side.{Side}
use Rattle.journal.specs.declared.place.Side.TheVariants.{Lower, Upper}
use Rattle.journal.proofs.Backing.{other_low}
use Rattle.journal.proofs.Cuts.{listing_done, listing_cut}

-- A block below the data is written: the data is kept.
pub settled_kept : (m m' : Meaning) (b : ℕ) (x : List ℕ) → b ≤ 128 → SettledWith m b x m' → DataKept m m'
settled_kept m m' b x low done = record {
  size = done.size;
  gains = λ k y past less may. (done.sets k y less may).1 (λ same. omega arith);
  contents = λ light k past less. done.others k less (λ same. omega arith);
}

pub cut_kept : (m m' : Meaning) (b : ℕ) (x : List ℕ) → b ≤ 128 → CutWith m b x m' → DataKept m m'
cut_kept m m' b x low cut = record {
  size = cut.size;
  gains = λ k y past less may. elim (cut.gains k y less may) [ inl old ↦ old | inr new ↦ absurd (omega (arith, new.0)) ];
  contents = λ light k past less. let z : true ≡ false = sym light ∙ cut.dark in let n : ◌≡◌ {A = ℕ} 0 1 = cc in absurd (omega arith);
}

pub kept_more : (m₀ m₁ m₂ : Meaning) → m₁.lit ≡ true → DataKept m₀ m₁ → DataKept m₁ m₂ → DataKept m₀ m₂
kept_more m₀ m₁ m₂ lit a b = record {
  size = b.size ∙ a.size;
  gains = λ k y past less may. a.gains k y past less (b.gains k y past (omega (arith, a.size)) may);
  contents = λ light k past less. b.contents light k past (omega (arith, a.size)) ∙ a.contents lit k past less;
}

-- The same entry in a half of the same numbers and blocks.
pub entry_in : (x : List ℕ) (g h : Half) (i : ℕ) (e : Entry) → g.first ≡ h.first → g.start ≡ h.start → IsEntry x g i e → IsEntry x h i e
entry_in x g h i e first start is =
    let same : g ≡ record { count = g.count; first = h.first; start = h.start } = ap (λ k. record { count = g.count; first = k; start = g.start }) first ∙ ap (λ k. record { count = g.count; first = h.first; start = k }) start in
    let moved : IsEntry x (record { count = g.count; first = h.first; start = h.start }) i e = subst (λ (t : Half). IsEntry x t i e) same is in
    record { marked = moved.marked; says = moved.says }

-- One more entry of the listing.
module _ (m m' : Meaning) (p : Place) (h : Half) (s : model.Standing) (cat : Catalogue) (i : ℕ) (lit : m.lit ≡ true) (same : s.catalogue ≡ cat) (into : ListsInto p h s)
    (backed : Backed m.blocks m.may h s) (within : i < length (listing cat)) (below : i < 64) where
  listed_entry : (x : List ℕ) → IsEntry x (half_with 0 p) i (get_or (listing cat) i no_entry) → IsEntry x (next_half h s) i (get_or (listing s.catalogue) i no_entry)
  listed_entry x is = subst (λ (c : Catalogue). IsEntry x (next_half h s) i (get_or (listing c) i no_entry)) (sym same) (entry_in x (half_with 0 p) (next_half h s) i (get_or (listing cat) i no_entry) into.first into.start is)

  within_same : i < length (listing s.catalogue)
  within_same = subst (λ (c : Catalogue). i < length (listing c)) (sym same) within

  low : other h.start + i ≤ 128
  low = omega (arith, (other_low h backed.range).1)

  at_same : start_of p.side + i ≡ other h.start + i
  at_same = ap (λ k. k + i) into.start

  pub listing_step : (u : Unit {0}) → Listed m.may h s i → EntryPut m p i (get_or (listing cat) i no_entry) (Ok u) m'
      → (m'.lit ≡ true) × DataKept m m' × Backed m'.blocks m'.may h s × Listed m'.may h s (i + 1)
  listing_step u listed done =
      let x = done.0 in
      let settled : SettledWith m (other h.start + i) x m' = subst (λ (b : ℕ). SettledWith m b x m') at_same (done.1.1 lit) in
      let both = listing_done m m' h s (get_or (listing cat) i no_entry) x backed i into.full within_same below (listed_entry x done.1.0) settled listed in
      (settled.light, settled_kept m m' (other h.start + i) x low settled, both.0, both.1)

  pub listing_broken : (fault : Fault) → EntryPut m p i (get_or (listing cat) i no_entry) (Err fault) m' → ListingDone m h s (Err fault) m'
  listing_broken Dark done =
      let x = done.0 in
      let cut : CutWith m (other h.start + i) x m' = subst (λ (b : ℕ). CutWith m b x m') at_same (done.1.1 lit) in
      (cut.dark, cut_kept m m' (other h.start + i) x low cut, listing_cut m m' h s (get_or (listing cat) i no_entry) x backed i into.full within_same below (listed_entry x done.1.0) cut)
  listing_broken NoBlock done = omega (arith, done.1.1 lit, backed.size.0, low, at_same)

-- What a later step leaves, seen from an earlier one.
pub listing_since : (m₀ m₁ m₂ : Meaning) (h : Half) (s : model.Standing) (fault : Fault) → m₁.lit ≡ true → DataKept m₀ m₁ → ListingDone m₁ h s (Err fault) m₂ → ListingDone m₀ h s (Err fault) m₂
listing_since m₀ m₁ m₂ h s Dark lit kept done = (done.0, kept_more m₀ m₁ m₂ lit kept done.1, done.2)
listing_since m₀ m₁ m₂ h s NoBlock lit kept done = done

-- The half of a place is one that a label may name.
pub side_start : (s : Side) → (start_of s ≡ 1) ⊎ (start_of s ≡ 65)
side_start Lower = inl refl
side_start Upper = inr refl

pub place_range : (p : Place) (count : ℕ) → count ≤ 61 → InRange (half_with count p)
place_range p count few = record { count = few; low = p.low; high = p.high; start = side_start p.side }

pub label_of_place : (n : ℕ) (x : List ℕ) (p : Place) (count start : ℕ) → start ≡ start_of p.side
    → (InRange (record { count = count; first = p.first; start = start }) → Labels n x (record { count = count; first = p.first; start = start })) → count ≤ 61 → Labels n x (half_with count p)
label_of_place n x p count start same labels few =
    let there : InRange (record { count = count; first = p.first; start = start }) → Labels n x (record { count = count; first = p.first; start = start }) = labels in
    subst (λ (k : ℕ). (InRange (record { count = count; first = p.first; start = k }) → Labels n x (record { count = count; first = p.first; start = k }))) same there (place_range p count few)
