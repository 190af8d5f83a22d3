-- A pair that an insertion made and uses at a place was made for it: with the call's own key if the
-- place is empty, and otherwise with the key that is there.
use Rattle.std.proofs.Common.{◌≡◌, ℕ, ◌==◌, eqb-true, Bool, true, false, cond, MatchBool, Option, None, Some, List, refl, subst}
use Rattle.std.proofs.lemmas.Bool.{and_parts}
use Rattle.papaya_call.specs.declared.search.Place.{Place}
use Rattle.papaya_call.specs.declared.compute.Remembered.{Remembered}
use Rattle.papaya_call.specs.declared.made.Made.{Made}
use Rattle.papaya_call.specs.declared.made.Of.{Of}
use Rattle.papaya_call.specs.declared.write.Write.{Write}
use Rattle.papaya_call.specs.Made.{serves_at}
use Rattle.papaya_call.specs.Write.{served_of, serves}
use Rattle.papaya_words_law.specs.Exchange.{Setting, Exchange}
use Rattle.papaya_words_law.specs.Code.{Coding}
use Rattle.papaya_call_law.specs.TrueAnswers.{LoadedPairs}
use Rattle.papaya_call_law.specs.Relies.{IsMadePair, IsOwnPair, IsPairAt, IsPairFor, ReliesFill, ReliesLoaded, ReliesOf}

module _ {K P : Type 0} (g : Setting K P) (c : Coding K P) (begun since : List (Exchange P)) (k : K) (loaded : LoadedPairs P) where
  -- the pair of the call's own key
  own_pair : (own : Option ℕ) → ReliesFill g c begun since k loaded own → (n : ℕ) → own ≡ Some n → IsOwnPair g c begun since k loaded n
  own_pair None r n e = absurd cc
  own_pair (Some i) r n e = let is : i ≡ n = cc e in subst (IsOwnPair g c begun since k loaded) is r

  -- the pair that was made for a place is used there
  pub placed_pair : (of : Of) (at : Place) → IsPairAt g c begun since k loaded of.pair of.table of.index → serves_at of at.table at.probe.i ≡ true
      → IsPairAt g c begun since k loaded of.pair at.table at.probe.i
  placed_pair of at r e =
      let parts = and_parts (of.table == at.table) (of.index == at.probe.i) e in
      subst (λ x. IsPairAt g c begun since k loaded of.pair at.table x) (eqb-true of.index at.probe.i parts.1)
      (subst (λ t. IsPairAt g c begun since k loaded of.pair t of.index) (eqb-true of.table at.table parts.0) r)

  -- and only there
  of_pair : (of : Option Of) → ReliesOf g c begun since k loaded of → (at : Place) (n : ℕ) → served_of of at ≡ Some n
      → IsPairAt g c begun since k loaded n at.table at.probe.i
  of_pair None r at n e = absurd cc
  of_pair (Some of) r at n e = by_place (serves_at of at.table at.probe.i) refl e
    where
      by_place : (b : Bool) → serves_at of at.table at.probe.i ≡ b → cond b (Some of.pair) None ≡ Some n
          → IsPairAt g c begun since k loaded n at.table at.probe.i
      by_place true there is = let same : of.pair ≡ n = cc is in
          subst (λ i. IsPairAt g c begun since k loaded i at.table at.probe.i) same (placed_pair of at r there)
      by_place false there is = absurd cc

  -- so it is with the pair that a write uses
  pub served_pair : (made : Made) (held : Remembered) → ReliesLoaded g c begun since k loaded made held → (write : Write) (n : ℕ)
      → serves made write ≡ Some n → IsPairFor g c begun since k loaded write n
  served_pair made held r write n e = by_old (write.old == 0) e
    where
      by_old : (b : Bool) → cond b made.own (served_of made.of write.place) ≡ Some n
          → MatchBool b (IsOwnPair g c begun since k loaded n) (IsPairAt g c begun since k loaded n write.place.table write.place.probe.i)
      by_old true is = own_pair made.own r.own_is n is
      by_old false is = of_pair made.of r.of_is write.place n is

  -- the call made it
  pub pair_made : (write : Write) (n : ℕ) → IsPairFor g c begun since k loaded write n → IsMadePair g c begun since k loaded n
  pair_made write n r = by_old (write.old == 0) r
    where
      by_old : (b : Bool) → MatchBool b (IsOwnPair g c begun since k loaded n)
          (IsPairAt g c begun since k loaded n write.place.table write.place.probe.i) → IsMadePair g c begun since k loaded n
      by_old true h = (h.0, h.1, h.2)
      by_old false h = (h.0, h.1, h.2)
