-- An exchange that succeeded, for the call itself or for its copy.
use Rattle.std.proofs.Common.{◌≡◌, ℕ, ◌==◌, ◌<◌, true, List, [], ◌∷◌, ◌++◌, Option, Some, None, ◌⊎◌, inl, inr, refl, sym, ◌∙◌, ap, subst, MatchBool, eqb-true}
use Rattle.papaya_call.specs.declared.ask.At.{At}
use Rattle.papaya_call.specs.declared.ask.At.TheVariants.{Root, Next, Aborted, Done, Slot, Made}
use Rattle.papaya_call.specs.declared.ask.Ask.TheVariants.{Exchange as Ask_exchange}
use Rattle.papaya_call.specs.declared.ask.Answer.TheVariants.{Exchanged, Found as Found_instead}
use Rattle.papaya_call.specs.declared.copy_ask.CopyAsk.TheVariants.{Exchange as Copy_exchange}
use Rattle.papaya_words_law.specs.Allows.{AllAllowed, Allows}
use Rattle.papaya_words_law.specs.Class.{IsOn}
use Rattle.papaya_words_law.specs.Code.{Coding, IsHashed}
use Rattle.papaya_words_law.specs.Exchange.{Setting, State, Exchange, after as state_after, run, start}
use Rattle.papaya_words_law.specs.Grows.{Comes}
use Rattle.papaya_words_law.proofs.Logs.{on_comes}
use Rattle.papaya_call.specs.Machine as call_machine
use Rattle.papaya_call_law.specs.Copier.{IsCopyAsked, IsThere}
use Rattle.papaya_call_law.specs.Relies.{change_of_kind}
use Rattle.papaya_call_law.specs.TrueAnswers.{IsTrueOf as IsTrueOfCall, IsAsked, IsWritten, told_of, word_of}
use Rattle.papaya_call_law.proofs.ReliesExchange.{machine_may}
use Rattle.papaya_call_law.proofs.ReliesNames.{ask_named, slot_named}
use Rattle.papaya_call.specs.declared.chain.ask.Ask.TheVariants as asks
use Rattle.papaya_call.specs.declared.chain.ask.Answer.TheVariants as answers
use Rattle.papaya_call.specs.ChainMachine.{ask_of, kind_in, kind_of_ask}
use Rattle.papaya_call_law.specs.Goes.{link_in}
use Rattle.papaya_call_law.specs.ChainRelies.{Relies}
use Rattle.papaya_call_law.proofs.Names.{call_asks, copies_may, copies_there}
use Rattle.papaya_call.specs.declared.copy.link.Link.TheVariants.{Linking}
use Rattle.papaya_core_store.specs.declared.pairs.Running.{Running}
use Rattle.papaya_core_store.specs.Performs.{own_key}
use Rattle.papaya_core_store.specs.Store.{StoreState, Stored}
use Rattle.papaya_core_store.specs.Tables.{word_at, put, table_of}
use Rattle.papaya_core_timeline.specs.Kept.{CallTrace, IsMade, IsMadeFor, chunks_in, slots_in}
use Rattle.papaya_core_timeline.proofs.KeptAnswer.{IsAnswered, Tells, changed, exchanged, own_told}
use Rattle.papaya_core_timeline.proofs.KeptExchange.{IsChanged, changes, root_empty}
use Rattle.papaya_core_timeline.proofs.KeptTables.{IsPlaced}
use Rattle.papaya_core_timeline.proofs.LinkWords.{link_words}
use Rattle.papaya_core_timeline.proofs.MachineLemmas.{machine_once}

module _ {Q K V S A : Type 0} (g : Setting Q (Stored K V)) (c : Coding Q (Stored K V)) (store : StoreState K V S) (r : Running K V A)
    (es : List (Exchange (Stored K V))) (call_trace : CallTrace K V) (own : Option K)
    (hashed : IsHashed g c) (key : Q)
    (split : call_trace.begun ++ call_trace.since ≡ es) (may : AllAllowed g start (call_trace.begun ++ call_trace.since))
    (relies : Relies g c call_trace.begun call_trace.since key r.machine call_trace.loaded)
    (coded : (at : At) → word_of g c (run es start) at ≡ word_at store.words at)
    (there : (t : ℕ) → 0 < t → Comes (run es start) t → IsMade store t)
    (opens : (t : ℕ) → ask_of r.machine ≡ asks.Call (Ask_exchange Root 0 t) → IsMade store t)
    (links : (behind t chunks : ℕ) → link_in r.machine.phase ≡ Some (Linking behind t chunks) → IsMadeFor store t chunks)
    (owns : own_key store r ≡ own)
    (sizes : (t : ℕ) → g.size t ≡ slots_in (table_of store.words.tables t))
    (chunks_are : (t : ℕ) → g.chunks t ≡ chunks_in (table_of store.words.tables t)) where
  -- the words as the law has them
  abbrev now : State (Stored K V)
  now = run es start

  -- and in the trace of the call
  abbrev told_now : State (Stored K V)
  told_now = run (call_trace.begun ++ call_trace.since) start

  same_now : told_now ≡ now
  same_now = ap (λ l. run l start) split

  -- a table of the chain was made
  pub on_there : (t : ℕ) → IsOn told_now.first told_now.next t → IsMade store t
  on_there t on = there t on.0 (subst (λ l. Comes (run l start) t) split (on_comes told_now t on))

  -- a slot within such a table is there
  slot_there : (t x : ℕ) → IsOn told_now.first told_now.next t → x < g.size t → IsPlaced store.words.tables (Slot t x)
  slot_there t x on within = let words = on_there t on in (words.0, words.1, subst (λ n. x < n) (sizes t ∙ ap slots_in words.1) within)

  module _ (at : At) (old new : ℕ) (a : ask_of r.machine ≡ asks.Call (Ask_exchange at old new)) where
    -- the call asks for itself
    calls : call_machine.ask_of r.machine.call ≡ Ask_exchange at old new
    calls = (call_asks r.machine (Ask_exchange at old new) a).1

    kinds_are : kind_of_ask r.machine ≡ call_machine.kind_of_ask r.machine.call
    kinds_are = ap (kind_in r.machine.call) (call_asks r.machine (Ask_exchange at old new) a).0

    -- a slot that is exchanged is there
    pub placed_call : (at ≡ Root) ⊎ (at ≡ Made) ⊎ ((t : ℕ) × (x : ℕ) × (at ≡ Slot t x)) → IsPlaced store.words.tables at
    placed_call (inl root) = subst (IsPlaced store.words.tables) (sym root) tt
    placed_call (inr (inl made)) = subst (IsPlaced store.words.tables) (sym made) tt
    placed_call (inr (inr (t, x, is))) =
        let m = r.machine.call in
        let named_slot = slot_named g c hashed call_trace.begun call_trace.since may key (call_machine.ask_of m)
        (ask_named g c hashed call_trace.begun call_trace.since may key call_trace.loaded.call m.task m.hash m.made m.state relies.call.stage) t x
        (inr (old, new, calls ∙ ap (λ y. Ask_exchange y old new) is)) in
        subst (IsPlaced store.words.tables) (sym is) (slot_there t x named_slot.0 named_slot.1)

    -- the exchange of the law that was made
    pub asked_call : word_of g c now at ≡ old → (e : Exchange (Stored K V))
        × IsAsked g c key (kind_of_ask r.machine) at new now call_trace.loaded.call e × Allows g now e × IsWritten g c now at new (state_after now e)
    asked_call = subst (λ kind. word_of g c now at ≡ old → (e : Exchange (Stored K V)) × IsAsked g c key kind at new now call_trace.loaded.call e
        × Allows g now e × IsWritten g c now at new (state_after now e)) (sym kinds_are)
        (subst (λ s. word_of g c s at ≡ old → (e : Exchange (Stored K V))
        × IsAsked g c key (call_machine.kind_of_ask r.machine.call) at new s call_trace.loaded.call e × Allows g s e
        × IsWritten g c s at new (state_after s e)) same_now
        (machine_may g c hashed call_trace.begun call_trace.since may key r.machine.call call_trace.loaded.call relies.call at old new calls))

    -- an exchange of the root finds none and opens a table
    opening : (e : Exchange (Stored K V)) → IsAsked g c key (kind_of_ask r.machine) at new now call_trace.loaded.call e → Allows g now e
        → word_of g c now at ≡ old → at ≡ Root → asks.Call (Ask_exchange at old new) ≡ asks.Call (Ask_exchange Root 0 new)
    opening e is allows stands root =
        let none : now.root ≡ 0 = root_empty g c key now call_trace.loaded.call new (kind_of_ask r.machine) e
        (subst (λ y. IsAsked g c key (kind_of_ask r.machine) y new now call_trace.loaded.call e) root is) allows in
        let zero : old ≡ 0 = sym stands ∙ ap (word_of g c now) root ∙ none in
        ap (λ y. asks.Call (Ask_exchange y old new)) root ∙ ap (λ y. asks.Call (Ask_exchange Root y new)) zero

    -- it was made
    pub call_exchanged : (word_at store.words at == old) ≡ true
        → IsAnswered g c store r es call_trace own key (asks.Call (Ask_exchange at old new)) (answers.Call Exchanged)
        (record store { words = put store.words at new }) r
    call_exchanged hit =
        let stands : word_of g c now at ≡ old = coded at ∙ eqb-true (word_at store.words at) old hit in
        let x = asked_call stands in
        let changed_by : IsChanged now call_trace.loaded.call new (kind_of_ask r.machine) at x.0 = changes now call_trace.loaded.call new g c key
        (kind_of_ask r.machine) at x.0 x.1 in
        let told : IsTrueOfCall g c key now (kind_of_ask r.machine) call_trace.loaded.call (Ask_exchange at old new) Exchanged (x.0 ∷ []) call_trace.loaded.call =
        subst (λ b. MatchBool b
        ((Exchanged ≡ Exchanged) × ((y : Exchange (Stored K V)) × IsAsked g c key (kind_of_ask r.machine) at new now call_trace.loaded.call y
        × (x.0 ∷ [] ≡ y ∷ [])) × (call_trace.loaded.call ≡ call_trace.loaded.call))
        ((Exchanged ≡ Found_instead (word_of g c now at)) × (x.0 ∷ [] ≡ []) × (call_trace.loaded.call ≡ told_of now at call_trace.loaded.call)))
        (sym (ap (λ y. y == old) (coded at) ∙ hit)) (refl, (x.0, x.1, refl), refl) in
        let heard : Tells g c store r es call_trace own key (asks.Call (Ask_exchange at old new)) (answers.Call Exchanged) (x.0 ∷ [])
        call_trace.loaded = own_told g c store r es call_trace own hashed key relies coded there (Ask_exchange at old new) Exchanged (x.0 ∷ [])
        call_trace.loaded.call told in
        exchanged g c store r es call_trace own hashed key relies coded there owns (asks.Call (Ask_exchange at old new)) a at new x.0
        call_trace.loaded heard (placed_call changed_by.place) x.3
        (λ t some comes. elim (changed_by.comes t comes) [
          | inl before ↦ there t some before
          | inr (root, same_table) ↦ opens t (a ∙ opening x.0 x.1 x.2 stands root ∙ ap (λ y. asks.Call (Ask_exchange Root 0 y)) same_table)
        ])
        changed_by.slots
        (λ none.
        let same_change : change_of_kind (kind_of_ask r.machine) old new ≡ None =
        sym (changed g c store r es call_trace own hashed key relies coded there (asks.Call (Ask_exchange at old new)) a (answers.Call Exchanged)
        (x.0 ∷ []) call_trace.loaded heard) ∙ none in
        (machine_once r.machine.call at old new calls, changed_by.unchanged old new same_change))
        (λ p h. inl h) refl refl

  module _ (at : At) (old new : ℕ) (a : ask_of r.machine ≡ asks.Copy (Copy_exchange at old new)) where
    -- a word that is exchanged is there
    placed_at : (at : At) → IsThere g c told_now call_trace.loaded.call.last call_trace.loaded.kept at → IsPlaced store.words.tables at
    placed_at Root h = tt
    placed_at (Next t) on = on_there t on
    placed_at (Aborted t) on = on_there t on
    placed_at Made h = absurd h
    placed_at (Done t chunk) h = let words = on_there t h.0 in (words.0, words.1, subst (λ n. chunk < n) (chunks_are t ∙ ap chunks_in words.1) h.1)
    placed_at (Slot t x) h = slot_there t x h.0 h.1

    pub placed_copy : IsPlaced store.words.tables at
    placed_copy = placed_at at (copies_there g c hashed call_trace.begun call_trace.since may key r.machine call_trace.loaded relies
        (Copy_exchange at old new) a)

    -- the exchange of the law that was made
    pub asked_copy : word_of g c now at ≡ old → (e : Exchange (Stored K V))
        × IsCopyAsked c (kind_of_ask r.machine) at new now call_trace.loaded.kept e × Allows g now e × IsWritten g c now at new (state_after now e)
    asked_copy = subst (λ s. word_of g c s at ≡ old → (e : Exchange (Stored K V))
        × IsCopyAsked c (kind_of_ask r.machine) at new s call_trace.loaded.kept e × Allows g s e × IsWritten g c s at new (state_after s e)) same_now
        (λ stands. copies_may g c hashed call_trace.begun call_trace.since may key r.machine call_trace.loaded relies
        (link_words g store chunks_are (link_in r.machine.phase) links) at old new a stands)
