-- The result of a step, as the contracts of a book's calls state it.
use Rattle.std.proofs.Common.{◌≡◌, ℕ, Bool, Option, Some, List, [], ◌∷◌, ◌++◌, sym, ap, ◌∙◌, subst}
use mathlib.Core.List.{IsPrefix}
use Rattle.papaya_call.specs.declared.ask.At.{At}
use Rattle.papaya_call.specs.declared.ask.StepKind.{StepKind}
use Rattle.papaya_map_book.specs.declared.rule.entry.Begun.{Begun}
use Rattle.papaya_map_book.specs.declared.rule.entry.Named.{Named}
use Rattle.papaya_map_book.specs.declared.rule.entry.Event.{Event}
use Rattle.papaya_map_book.specs.declared.rule.entry.Event.TheVariants.{Begin, Wish}
use Rattle.papaya_map_book.specs.Calls.{IsRead, IsTried}
use Rattle.papaya_map_book.specs.Logs.{Stored, brought, first_in, kind_of, made_of, place_of}
use Rattle.papaya_map_book.specs.Plays.{Looked, Tried}
use Rattle.papaya_map_book.specs.Rule.{IsLawfulLog}
use Rattle.papaya_map_book.proofs.Logs.{prefix_trans}

pub first_prefix : {X : Type 0} (x : X) (xs : List X) → first_in xs ≡ Some x → IsPrefix (x ∷ []) xs
first_prefix x [] e = absurd (cc e)
first_prefix x (y ∷ ys) e = (ys, let i : y ≡ x = cc e in ap (λ z. z ∷ ys) (sym i))

module _ {K V S : Type 0} (eq : K → K → Bool) (hash : S → K → ℕ) where
  -- a book was opened once
  pub opened_with : (b b' : Begun K V S) (log : List (Event K V S)) → IsPrefix (Begin b ∷ []) log → IsLawfulLog eq hash b' log → b' ≡ b
  opened_with b b' log pre l = let both : Begin b ∷ ([] ++ pre.0) ≡ Begin b' ∷ l.rest = pre.1 ∙ l.is in sym (cc both)

  module _ (b : Begun K V S) (first v log : List (Event K V S)) (begins : first_in first ≡ Some (Begin b)) (learned : IsPrefix first v)
      (since : IsPrefix v log) where
    -- the log that the thread has observed before the step begins as the book does
    pub began_seen : IsPrefix (Begin b ∷ []) v
    began_seen = prefix_trans (Begin b ∷ []) first v (first_prefix (Begin b) first begins) learned

    began : IsPrefix (Begin b ∷ []) log
    began = prefix_trans (Begin b ∷ []) v log began_seen since

    pub read_told : (ask : Event K V S) (at : At) (found : ℕ) (state : Option (Named K V)) → place_of ask ≡ at
        → Looked eq hash (place_of ask) found log state → IsRead eq hash b at found log state
    read_told ask at found state is l =
        let same : l.begun ≡ b = opened_with b l.begun log began l.lawful in
        subst (λ (z : Begun K V S × At). IsRead eq hash z.0 z.1 found log state) (λ i. (same i, is i))
        (record { lawful = l.lawful; is = l.is; state_is = l.state_is })

    pub tried_told : (ask : Event K V S) (at : At) (kind : Option StepKind) (made : Option (Stored K V)) (brings : Named K V) (old new found : ℕ)
        (state : Option (Named K V)) → ask ≡ Wish at kind made brings
        → Tried eq hash (place_of ask) (kind_of ask) old new (made_of ask) (brought ask) v found log state → (seen : List (Event K V S))
        → IsPrefix seen v → IsTried eq hash b at kind old new made brings seen found log state
    tried_told ask at kind made brings old new found state is t seen pre =
        let same : t.begun ≡ b = opened_with b t.begun log began t.now in
        let all : IsTried eq hash t.begun (place_of ask) (kind_of ask) old new (made_of ask) (brought ask) seen found log state =
        record {
          before = t.before;
          since = prefix_trans seen v t.before pre t.since;
          lawful = t.lawful;
          now = t.now;
          is = t.is;
          state_is = t.state_is;
          after = t.after;
        } in
        subst (λ (z : Begun K V S × Event K V S).
        IsTried eq hash z.0 (place_of z.1) (kind_of z.1) old new (made_of z.1) (brought z.1) seen found log state) (λ i. (same i, is i)) all
