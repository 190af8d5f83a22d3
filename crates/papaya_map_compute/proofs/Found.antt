-- The facts that the fast path's search gives a compute: the key had no pair, or it had the pair that was met.
use Rattle.std.proofs.Common.{◌≡◌, ℕ, Bool, true, Option, None, Some, List, [], refl, sym, ◌∙◌, subst}
use Rattle.std.specs.Cmp.{IsEquivalence}
use Rattle.logbook.specs.Pages.{Book}
use Rattle.papaya_words.specs.Word.{kind_of, pair_of}
use Rattle.papaya_words.specs.declared.word.Kind.TheVariants as kinds
use Rattle.papaya_call.specs.declared.search.Place.{Place}
use Rattle.papaya_call.specs.declared.compute.Gap.TheVariants.{At}
use Rattle.papaya_call.specs.declared.machine.State.{State}
use Rattle.papaya_call.specs.declared.machine.State.TheVariants.{Offering, Showing}
use Rattle.papaya_call.specs.Made.{nothing_made}
use Rattle.papaya_words_law.specs.Code.{Coding}
use Rattle.papaya_words_law.specs.Exchange.{Setting}
use Rattle.papaya_call_law.specs.Relies.{WasAtMoment}
use Rattle.papaya_call_law.proofs.ReliesHeld.{machine_offers, machine_shows}
use Rattle.papaya_map_book.specs.declared.rule.entry.Begun.{Begun}
use Rattle.papaya_map_book.specs.declared.rule.entry.Event.{Event}
use Rattle.papaya_map_book.specs.declared.rule.entry.Named.TheVariants as names
use Rattle.papaya_map_book.specs.Hashes.{hash_of}
use Rattle.papaya_map_book.specs.Logs.{Stored, exchanges_of, pair_named}
use Rattle.papaya_map_book.specs.Rule.{IsPlaced}
use Rattle.papaya_map_book.specs.Sheets.{Sheet}
use Rattle.papaya_map_lookup.specs.History.{history_of}
use Rattle.papaya_map_lookup.proofs.Readings.{IsQuery, hashed_with}
use Rattle.papaya_map_change.specs.Seeking.{Computes, IsSeekingAt, seeker_at}
use Rattle.papaya_map_change.specs.ClosureCalls.{WasHeld}
use Rattle.papaya_map_change.proofs.Changing.{Coded, Wide}
use Rattle.papaya_map_change.proofs.ClosureCalls.{own_held_then}
use Rattle.papaya_map_change.proofs.Written.{own_query}

module _ {K V S H : Type 0} (eq : K → K → Bool) (input : K → List (List ℕ)) (build : S → H) (write : H → List ℕ → H) (finish : H → ℕ)
    (classes : IsEquivalence eq) (respects : (x y : K) → eq x y ≡ true → input x ≡ input y)
    (b : Begun K V S) (name : Book) (key : K) (begun log : List (Event K V S)) (table : Sheet) where
  abbrev hash : S → K → ℕ
  hash = hash_of input build write finish

  own : IsQuery eq input (eq key) (input key)
  own = own_query eq input build write finish classes respects b name key

  abbrev At_state : State → Option (Stored K V) → Type 0
  At_state state met = IsSeekingAt Computes eq hash b name key begun log state met table

  abbrev G : Setting (Option K) (Stored K V)
  G = Wide eq input build write finish classes respects b (eq key) (input key) own (Some key) name begun log

  abbrev C : Coding (Option K) (Stored K V)
  C = Coded eq input build write finish classes respects b (eq key) (input key) own (Some key) name begun

  -- if it found an empty place
  pub none_found : (at : Place) → At_state (Offering (At at)) None → WasHeld eq (eq key) (history_of begun) (history_of log) None
  none_found at r =
      own_held_then eq input build write finish classes respects b (eq key) (input key) own begun log r.4.lawful r.4.since r.4.is key None
      (machine_offers G C (exchanges_of begun) r.4.since (Some key) (record { last = r.2; made = [] })
      (seeker_at Computes (hash b.hasher key) b.mode 1 (nothing_made b.limit) (Offering (At at))).call r.4.relies.call refl)

  -- if it met a live pair
  module _ (at : Place) (word : ℕ) (p : Stored K V) (r : At_state (Showing (record { place = at; word = word })) (Some p)) where
    pub pair_placed : IsPlaced b (Some name) (names.Pair p)
    pair_placed = subst (λ (o : Option (Stored K V)). IsPlaced b (Some name) (pair_named o)) (r.3 p refl) r.4.last_placed

    pub pair_live : kind_of word ≡ kinds.Live
    pair_live = r.4.relies.call.stage.1.live

    pub pair_found : WasHeld eq (eq key) (history_of begun) (history_of log) (Some p)
    pair_found =
        let hashed = hashed_with eq input build write finish classes respects b (eq key) (input key) own log r.4.lawful in
        let shown = machine_shows G C hashed (exchanges_of begun) r.4.since (Some key) (record { last = r.2; made = [] })
        (seeker_at Computes (hash b.hasher key) b.mode 1 (nothing_made b.limit) (Showing (record { place = at; word = word }))).call r.4.relies.call
        (pair_of word) refl in
        let both : Some shown.0 ≡ Some p = sym shown.1 ∙ r.3 p refl in
        let one : shown.0 ≡ p = cc both in
        own_held_then eq input build write finish classes respects b (eq key) (input key) own begun log r.4.lawful r.4.since r.4.is key (Some p)
        (subst (λ (z : Stored K V). WasAtMoment G C (exchanges_of begun) r.4.since (Some key) (Some z)) one shown.4)
