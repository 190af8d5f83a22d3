-- The reply of a lookup is right for some history between the two that its pass has observed.
use Rattle.std.proofs.Common.{◌≡◌, ℕ, Bool, true, Option, None, Some, option_map, List, refl, ap, ◌∙◌, subst}
use Rattle.std.specs.Cmp.{IsEquivalence}
use mathlib.Core.List.{IsPrefix}
use denote.Bor.{Bor}
use Rattle.papaya_call.specs.declared.ask.Ask.TheVariants.{Done}
use Rattle.papaya_call.specs.declared.call.Reply.{Reply}
use Rattle.papaya_call.specs.declared.call.Reply.TheVariants.{Absent, Found, Inserted, Replaced, Occupied, Removed, Kept, Aborted, Done, Refused}
use Rattle.papaya_call.specs.declared.call.Task.TheVariants.{Get}
use Rattle.papaya_call.specs.declared.machine.Machine.{Machine}
use Rattle.papaya_call.specs.declared.machine.State.{State as Stage}
use Rattle.papaya_call.specs.declared.machine.State.TheVariants.{AtRoot, Making, Opening, Searching}
use Rattle.papaya_call.specs.declared.machine.State.TheVariants.{Writing, Offering, Showing}
use Rattle.papaya_call.specs.declared.machine.State.TheVariants.{Pairing, Putting, Burying}
use Rattle.papaya_call.specs.declared.machine.State.TheVariants.{Counting, Noting, Uncounting}
use Rattle.papaya_call.specs.declared.machine.State.TheVariants.{Leaving, Growing, Ended}
use Rattle.papaya_call.specs.declared.search.Search.TheVariants.{Sizing, Looking, Reading, Comparing}
use Rattle.papaya_call.specs.declared.made.Made.{Made}
use Rattle.papaya_words_law.specs.Code.{Coding}
use Rattle.papaya_words_law.specs.Exchange.{Exchange, Setting}
use Rattle.papaya_call.specs.Machine.{IsValidState, ask_of, asks}
use Rattle.papaya_call_law.specs.Relies.{IsReply, ReliesStage, WasAtMoment}
use Rattle.papaya_call_law.specs.TrueAnswers.{LoadedPairs}
use Rattle.papaya_map_book.specs.Sheets.{Sheet}
use Rattle.papaya_map_book.specs.declared.rule.entry.Begun.{Begun}
use Rattle.papaya_map_book.specs.declared.rule.entry.Event.{Event}
use Rattle.papaya_map_book.specs.Hashes.{hash_of}
use Rattle.papaya_map_book.proofs.Logs.{prefix_trans}
use Rattle.papaya_map_lookup.specs.History.{Change, history_of, key_of}
use Rattle.papaya_map_book.specs.Logs.{Stored, exchanges_of}
use Rattle.papaya_map_lookup.specs.declared.lookup.Hit.{Hit}
use Rattle.papaya_map_lookup.specs.Answers.{IsAnsweredBetween, IsFoundBetween, IsHitAnsweredBetween, IsPairAnsweredBetween}
use Rattle.papaya_map_lookup.proofs.Answering.{Rested}
use Rattle.papaya_map_lookup.proofs.Moments.{IsHistory, matched_history}
use Rattle.papaya_map_lookup.proofs.Readings.{IsQuery, coding, setting}

-- a machine that has replied is at its end
done_state : (made : Made) (hash : ℕ) (s : Stage) → IsValidState Get s → (reply : Reply) → asks made hash s ≡ Done reply → s ≡ Ended reply
done_state made hash AtRoot stands reply e = absurd cc
done_state made hash Making stands reply e = absurd stands
done_state made hash (Opening u) stands reply e = absurd stands
done_state made hash (Searching (Sizing u)) stands reply e = absurd cc
done_state made hash (Searching (Looking at)) stands reply e = absurd cc
done_state made hash (Searching (Reading at)) stands reply e = absurd cc
done_state made hash (Searching (Comparing at word)) stands reply e = absurd cc
done_state made hash (Writing write) stands reply e = absurd stands.0
done_state made hash (Offering gap) stands reply e = absurd stands.0
done_state made hash (Showing removal) stands reply e = absurd stands.0
done_state made hash (Pairing purpose) stands reply e = absurd stands.0
done_state made hash (Putting put) stands reply e = absurd stands.0
done_state made hash (Burying removal) stands reply e = absurd stands.0
done_state made hash (Counting n) stands reply e = absurd stands
done_state made hash (Noting n) stands reply e = absurd stands
done_state made hash (Uncounting n) stands reply e = absurd stands
done_state made hash (Leaving u) stands reply e = absurd cc
done_state made hash (Growing u) stands reply e = absurd stands
done_state made hash (Ended other) stands reply e = let is : other ≡ reply = cc e in ap Ended is

module _ {K P : Type 0} (g : Setting K P) (c : Coding K P) (begun since : List (Exchange P)) (k : K) (loaded : LoadedPairs P) where
  -- a lookup replies that its key was absent at some point, or that it found a pair
  get_reply : (reply : Reply) → IsReply g c begun since k loaded Get reply → ((n : ℕ) → reply ≡ Found n → ⊥) → WasAtMoment g c begun since k None
  get_reply Absent r none = r
  get_reply (Found n) r none = absurd (none n refl)
  get_reply (Inserted n) r none = absurd r
  get_reply (Replaced m n) r none = absurd r
  get_reply (Occupied n) r none = absurd r
  get_reply (Removed n) r none = absurd r
  get_reply (Kept n) r none = absurd r
  get_reply (Aborted t) r none = absurd r
  get_reply Done r none = absurd r
  get_reply (Refused refused) r none = absurd r

module _ {K V S H : Type 0} (eq : K → K → Bool) (input : K → List (List ℕ)) (build : S → H) (write : H → List ℕ → H) (finish : H → ℕ)
    (classes : IsEquivalence eq) (respects : (x y : K) → eq x y ≡ true → input x ≡ input y)
    (b : Begun K V S) (matches : K → Bool) (query : List (List ℕ)) (lawful : IsQuery eq input matches query) (old began : List (Event K V S))
    (pre : IsPrefix old began)
    (log : List (Event K V S)) (m : Machine) (table : Option (Bor Sheet)) (pair : Option (Stored K V))
    (r : Rested eq input build write finish classes respects b matches query lawful (exchanges_of began) log m table pair)
    (stands : IsValidState Get m.state) where
  abbrev hash : S → K → ℕ
  hash = hash_of input build write finish

  -- the history at some point of the call
  history_then : (value : Option (Stored K V))
      → WasAtMoment (setting eq input build write finish classes respects b matches query lawful log)
      (coding eq input build write finish classes respects b matches query lawful) (exchanges_of began) r.since None value → IsHistory eq matches old log value
  history_then value was = matched_history eq input build write finish classes respects b matches query lawful old began pre log r.lawful r.since r.is value was

  -- a pair was found, and is the one that is held
  pub found_answer : (n : ℕ) → ask_of m ≡ Done (Found n) → (q : Stored K V) → pair ≡ Some q → (hit : Hit K V S H) → hit.key.now ≡ key_of q
      → hit.value.now ≡ q.value.value → IsHitAnsweredBetween eq matches (history_of old) (history_of log) (Some hit)
  found_answer n e q has hit key_is value_is =
      let last = r.found n (done_state m.made m.hash m.state (stands) (Found n) e) in
      let p = last.0 in
      let h = history_then (Some p) last.2 in
      let match' = h.found p refl in
      let one : q ≡ p = cc (has, r.holds_pair.0, last.1) in
      record {
        seen = h.seen;
        since = h.since;
        until = h.until;
        is = (
          p,
          match',
          h.had p.value.key.value match',
          (key_is ∙ ap (λ (z : Stored K V). key_of z) one, value_is ∙ ap (λ (z : Stored K V). z.value.value) one),
        );
      }

  -- none was found
  pub absent_answer : (reply : Reply) → ask_of m ≡ Done reply → ((n : ℕ) → reply ≡ Found n → ⊥)
      → IsHitAnsweredBetween {S = S} {H = H} eq matches (history_of old) (history_of log) None
  absent_answer reply e none =
      let g = setting eq input build write finish classes respects b matches query lawful log in
      let c = coding eq input build write finish classes respects b matches query lawful in
      let ended = done_state m.made m.hash m.state (stands) reply e in
      let stage : ReliesStage g c (exchanges_of began) r.since None r.loaded Get
      (Ended reply) = subst (λ z. ReliesStage g c (exchanges_of began) r.since None r.loaded Get z) ended
      (subst (λ t. ReliesStage g c (exchanges_of began) r.since None r.loaded t m.state) r.task_is r.relies.stage) in
      let h = history_then None (get_reply g c (exchanges_of began) r.since None r.loaded reply stage none) in
      record { seen = h.seen; since = h.since; until = h.until; is = h.had }

-- the result about the pair that was found, from one that states more of it
found_as : {K V A B : Type 0} (is : A → Stored K V → Type 0) (is' : B → Stored K V → Type 0) (f : A → B)
    → ((a : A) (p : Stored K V) → is a p → is' (f a) p)
    → (eq : K → K → Bool) (matches : K → Bool) (old new : List (Change K (Stored K V))) (answer : Option A) (less : Option B) → option_map f answer ≡ less
    → IsFoundBetween is eq matches old new answer → IsFoundBetween is' eq matches old new less
found_as is is' f less_of eq matches old new answer less same a = subst (IsFoundBetween is' eq matches old new) same (mapped answer a)
  where
    mapped : (o : Option _) → IsFoundBetween is eq matches old new o → IsFoundBetween is' eq matches old new (option_map f o)
    mapped None a = record { seen = a.seen; since = a.since; until = a.until; is = a.is }
    mapped (Some x) a = record { seen = a.seen; since = a.since; until = a.until; is = (a.is.0, a.is.1, a.is.2, less_of x a.is.0 a.is.3) }

module _ {K V : Type 0} (eq : K → K → Bool) (matches : K → Bool) (old new : List (Change K (Stored K V))) where
  -- the value of the pair that was found
  pub value_answer : (answer : Option (Bor K × Bor V)) (value : Option (Bor V)) → option_map (λ pair. pair.1) answer ≡ value
      → IsPairAnsweredBetween eq matches old new answer → IsAnsweredBetween eq matches old new value
  value_answer = found_as (λ pair p. (pair.0.now ≡ key_of p) × (pair.1.now ≡ p.value.value)) (λ value p. value.now ≡ p.value.value) (λ pair. pair.1)
      (λ pair p is. is.1) eq matches old new

  -- and its key too
  pub pair_answer : {S H : Type 0} (answer : Option (Hit K V S H)) (pair : Option (Bor K × Bor V))
      → option_map (λ hit. (hit.key, hit.value)) answer ≡ pair → IsHitAnsweredBetween eq matches old new answer → IsPairAnsweredBetween eq matches old new pair
  pair_answer = found_as (λ hit p. (hit.key.now ≡ key_of p) × (hit.value.now ≡ p.value.value))
      (λ pair p. (pair.0.now ≡ key_of p) × (pair.1.now ≡ p.value.value)) (λ hit. (hit.key, hit.value)) (λ hit p is. is) eq matches old new

-- a result since a longer history is one since a shorter history
pub answered_since : {K V A : Type 0} (is_of : A → Stored K V → Type 0) (eq : K → K → Bool) (matches : K → Bool)
    (old mid new : List (Change K (Stored K V))) (answer : Option A) → IsPrefix old mid → IsFoundBetween is_of eq matches mid new answer
    → IsFoundBetween is_of eq matches old new answer
answered_since is_of eq matches old mid new answer pre f = record { seen = f.seen; since = prefix_trans old mid f.seen pre f.since; until = f.until; is = f.is }
