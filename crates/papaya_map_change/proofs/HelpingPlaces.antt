-- The places that a copy for a call names are there: their tables are in the log, and a slot is within its table.
use Rattle.std.proofs.Common.{◌≡◌, ℕ, ◌<◌, Bool, true, Option, Some, List, length, refl, sym, ap, ◌∙◌, subst}
use Rattle.std.specs.Cmp.{IsEquivalence}
use mathlib.Core.List.{IsPrefix}
use denote.Bor.{Bor}
use Rattle.boxcar.specs.Table.{Where}
use Rattle.logbook.specs.Pages.{Book}
use Rattle.logbook.specs.declared.tokens.Pen.{Pen}
use Rattle.papaya_call.specs.declared.ask.At.{At}
use Rattle.papaya_call.specs.declared.ask.At.TheVariants.{Root, Next, Aborted, Done, Slot, Made as Made_word}
use Rattle.papaya_call.specs.declared.copy_ask.CopyAsk.{CopyAsk}
use Rattle.papaya_call.specs.declared.copy_ask.CopyAsk.TheVariants as copies
use Rattle.papaya_call.specs.declared.chain.ask.Ask.TheVariants as asks
use Rattle.papaya_call.specs.declared.chain.machine.Machine.{Machine}
use Rattle.papaya_call.specs.ChainMachine.{ask_of}
use Rattle.papaya_call_law.proofs.Names.{copies_guarantee_hint, copies_there}
use Rattle.papaya_words_law.specs.Class.{IsOn}
use Rattle.papaya_words_law.specs.Exchange.{Exchange, run, start}
use Rattle.papaya_words_law.specs.Hints.{IsHint}
use Rattle.papaya_call_law.specs.Copier.{AreThere, IsThere}
use Rattle.papaya_map_book.specs.declared.rule.entry.Begun.{Begun}
use Rattle.papaya_map_book.specs.declared.rule.entry.Event.{Event}
use Rattle.papaya_map_book.specs.Calls.{HasCome, IsTable}
use Rattle.papaya_map_book.specs.Hashes.{hash_of}
use Rattle.papaya_map_book.specs.Hinted.{IsSlotHint}
use Rattle.papaya_map_book.specs.Logs.{Stored, coding_of, exchanges_of, setting_of, state_of, steps_of}
use Rattle.papaya_map_book.specs.Sheets.{Sheet}
use Rattle.papaya_map_book.proofs.Found.{on_came}
use Rattle.papaya_map_book.proofs.Loaded.{table_since}
use Rattle.papaya_map_book.proofs.TableSizes.{sizes}
use Rattle.papaya_map_lookup.proofs.Readings.{hint_without}
use Rattle.papaya_map_change.specs.Changing.{IsCalling, IsForm, loaded_with}
use Rattle.papaya_map_change.proofs.Relying.{ChainRelying, coded, hashed_in, relying_may, wide}

module _ {K V S : Type 0} where
  -- one number, one table
  pub one_table : (log : List (Event K V S)) (t : ℕ) (sheet sheet' : Sheet) → IsTable log t sheet → IsTable log t sheet' → sheet ≡ sheet'
  one_table log t sheet sheet' here there = let same : here.0 ≡ there.0 = (let e : Some here.0 ≡ Some there.0 = sym here.1 ∙ there.1 in cc e) in
      sym here.2 ∙ (ap (λ (w : Where Sheet). w.value) same ∙ there.2)

  -- a table on the chain has come
  pub chain_came : (log : List (Event K V S)) (t : ℕ) → IsOn (state_of log).first (state_of log).next t → HasCome log t
  chain_came log t on = on_came (steps_of log) t on

module _ {K V S H : Type 0} (eq : K → K → Bool) (input : K → List (List ℕ)) (build : S → H) (write : H → List ℕ → H) (finish : H → ℕ)
    (classes : IsEquivalence eq) (respects : (x y : K) → eq x y ≡ true → input x ≡ input y)
    (b : Begun K V S) (name : Book) (matches : K → Bool) (fed : ℕ) (form : IsForm eq (hash_of input build write finish) b matches fed) (k : Option K)
    (begun log : List (Event K V S)) (m : Machine) (table : Option (Bor Sheet)) (last kept : Option (Stored K V)) (made : List (Stored K V))
    (taken put : Option (Stored K V)) (fresh : Option (Where Sheet × Pen))
    (r : IsCalling eq (hash_of input build write finish) b name matches fed k begun log m table last kept made taken put fresh) where
  -- the facts that the call relies on
  abbrev pub relying : ChainRelying eq input build write finish classes respects b matches fed form k (exchanges_of begun) log m (loaded_with last kept made)
  relying = record { since = r.since; is = r.is; relies = r.relies }

  abbrev g : Rattle.papaya_words_law.specs.Exchange.Setting (Option K) (Stored K V)
  g = wide eq input build write finish classes respects b matches fed form k (exchanges_of begun) log

  abbrev c : Rattle.papaya_words_law.specs.Code.Coding (Option K) (Stored K V)
  c = coded eq input build write finish classes respects b matches fed form k (exchanges_of begun)

  -- each word and pair in a copy's ask is there
  pub all_there : (ask : CopyAsk) → ask_of m ≡ asks.Copy ask → AreThere g c (state_of log) last kept ask
  all_there ask e =
      subst (λ (z : List (Exchange (Stored K V))). AreThere g c (run z start) last kept ask) r.is
      (copies_there g c (hashed_in eq input build write finish classes respects b matches fed form k (exchanges_of begun) log r.lawful)
      (exchanges_of begun) r.since
      (relying_may eq input build write finish classes respects b matches fed form k (exchanges_of begun) log r.lawful m (loaded_with last kept made)
      relying) k m (loaded_with last kept made) r.relies ask e)

  -- and a hint that it writes may be there
  pub may_note : (t x n : ℕ) → ask_of m ≡ asks.Copy (copies.WriteHint t x n) → IsSlotHint eq (hash_of input build write finish) b t x n log
  may_note t x n e =
      let hash = hash_of input build write finish b.hasher in
      let wide_hint = copies_guarantee_hint g c
      (hashed_in eq input build write finish classes respects b matches fed form k (exchanges_of begun) log r.lawful) (exchanges_of begun) r.since
      (relying_may eq input build write finish classes respects b matches fed form k (exchanges_of begun) log r.lawful m (loaded_with last kept made)
      relying) k m (loaded_with last kept made) r.relies t x n e in
      let here : IsHint g c (state_of log) t x n = subst (λ (z : List (Exchange (Stored K V))). IsHint g c (run z start) t x n) r.is wide_hint in
      record { lawful = r.lawful; is = hint_without (setting_of eq hash b.mode b.limit log) (coding_of hash) matches fed ((state_of log).slot t x) n here }

  -- if a word is named, its table has come
  abbrev pub HasComeFor : At → Type 0
  HasComeFor Root = Unit {0}
  HasComeFor (Next t) = HasCome log t
  HasComeFor (Aborted t) = HasCome log t
  HasComeFor (Done t c) = HasCome log t
  HasComeFor (Slot t x) = HasCome log t
  HasComeFor Made_word = Unit {0}

  pub came_for : (at : At) → IsThere g c (state_of log) last kept at → HasComeFor at
  came_for Root there = tt
  came_for (Next t) there = chain_came log t there
  came_for (Aborted t) there = chain_came log t there
  came_for (Done t c) there = chain_came log t there.0
  came_for (Slot t x) there = chain_came log t there.0
  came_for Made_word there = tt

  -- and has the slot, later too
  pub slot_within : (t x : ℕ) → IsThere g c (state_of log) last kept (Slot t x) → (log' : List (Event K V S)) → IsPrefix log log' → (sheet : Sheet)
      → IsTable log' t sheet → x < length sheet.slots
  slot_within t x there log' pre sheet now =
      let came = chain_came log t there.0 in
      let here : IsTable log' t came.0.value = table_since log log' t came.0.value pre (came.0, came.1, refl) in
      let same : came.0.value ≡ sheet = one_table log' t came.0.value sheet here now in
      subst (λ (z : Sheet). x < length z.slots) same (subst (λ (n : ℕ). x < n) (sizes (steps_of log) t came.0 came.1).0 there.1)
