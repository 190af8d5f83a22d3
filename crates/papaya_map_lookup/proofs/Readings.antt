-- A lookup with the key that it searches for as a further key: the facts that it relies on, over
-- longer logs and after each answer.
use Rattle.std.proofs.Common.{◌≡◌, ℕ, ◌%◌, ◌^◌, Bool, true, Option, None, List, [], ◌++◌, append-nil, append_assoc, sym, ap, ◌∙◌, subst, arith}
use Rattle.std.specs.Cmp.{IsEquivalence}
use Rattle.std.specs.List.{fold}
use Rattle.std.proofs.Math.Nat.{mod-lt}
use mathlib.Core.List.{IsPrefix}
use Rattle.papaya_call.specs.declared.ask.Answer.{Answer}
use Rattle.papaya_call.specs.declared.machine.Machine.{Machine}
use Rattle.papaya_words_law.specs.Allows.{AllAllowed}
use Rattle.papaya_words_law.specs.Code.{Coding}
use Rattle.papaya_words_law.specs.Class.{IsOn}
use Rattle.papaya_words_law.specs.Exchange.{Exchange, Setting, Word, Empty, Closed, Live, Marked, Copied, Buried, run, start}
use Rattle.papaya_words_law.specs.Further.{IsLawfulKey, coding_with, with_key}
use Rattle.papaya_words_law.specs.Hints.{IsHintOf}
use Rattle.papaya_words_law.specs.Grows.{Agrees}
use Rattle.papaya_call.specs.Machine.{after, ask_of, kind_of_ask}
use Rattle.papaya_call_law.specs.Relies.{Relies}
use Rattle.papaya_call_law.specs.TrueAnswers.{IsTrueOf, LoadedPairs}
use Rattle.papaya_words_law.specs.Code.{IsHashed}
use Rattle.papaya_words_law.proofs.Alike.{all_alike}
use Rattle.papaya_words_law.proofs.Further.{key_agrees, key_alike, key_lawful}
use Rattle.papaya_call_law.proofs.ReliesLearn.{machine_learns}
use Rattle.papaya_call_law.proofs.ReliesStable.{relies_stable}
use Rattle.papaya_call_law.proofs.ReliesTables.{relies_carries}
use Rattle.papaya_map_book.specs.declared.rule.entry.Begun.{Begun}
use Rattle.papaya_map_book.specs.declared.rule.entry.Event.{Event}
use Rattle.papaya_map_book.specs.Hashes.{hash_of}
use Rattle.papaya_map_book.specs.Logs.{Stored, coding_of, entries_of, exchanges_of, setting_of, state_of}
use Rattle.papaya_map_lookup.specs.Lookups.{coding_for, setting_for}
use Rattle.papaya_map_book.specs.Rule.{IsLawfulLog}
use Rattle.papaya_map_book.proofs.Logs.{exchanges_of-append}
use Rattle.papaya_map_book.proofs.Settings.{agrees_later, is_hashed}
use Rattle.papaya_map_book.proofs.TableSizes.{some_slot}

-- a possible hint of a slot is one with the further key too
pub hint_with : {K P : Type 0} (g : Setting K P) (c : Coding K P) (matches : K → Bool) (hash : ℕ) (w : Word P) (n : ℕ) → IsHintOf g c w n
    → IsHintOf (with_key g matches hash) (coding_with c hash) w n
hint_with g c matches hash Empty n h = h
hint_with g c matches hash Closed n h = h
hint_with g c matches hash (Live p) n h = h
hint_with g c matches hash (Marked p) n h = h
hint_with g c matches hash (Copied p) n h = h
hint_with g c matches hash (Buried p) n h = h

-- and without it
pub hint_without : {K P : Type 0} (g : Setting K P) (c : Coding K P) (matches : K → Bool) (hash : ℕ) (w : Word P) (n : ℕ)
    → IsHintOf (with_key g matches hash) (coding_with c hash) w n → IsHintOf g c w n
hint_without g c matches hash Empty n h = h
hint_without g c matches hash Closed n h = h
hint_without g c matches hash (Live p) n h = h
hint_without g c matches hash (Marked p) n h = h
hint_without g c matches hash (Copied p) n h = h
hint_without g c matches hash (Buried p) n h = h

-- The argument of a lookup matches some keys. It hashes as they do, and they are all the keys that
-- equal one of them.
pub record IsQuery {K : Type 0} (eq : K → K → Bool) (input : K → List (List ℕ)) (matches : K → Bool) (query : List (List ℕ)) : Type 0 where
  pub feeds : (k : K) → matches k ≡ true → query ≡ input k
  pub class : (k l : K) → matches k ≡ true → matches l ≡ eq k l

module _ {K V S H : Type 0} (eq : K → K → Bool) (input : K → List (List ℕ)) (build : S → H) (write : H → List ℕ → H) (finish : H → ℕ)
    (classes : IsEquivalence eq) (respects : (x y : K) → eq x y ≡ true → input x ≡ input y)
    (b : Begun K V S) (matches : K → Bool) (query : List (List ℕ)) (lawful : IsQuery eq input matches query) where
  abbrev hash : S → K → ℕ
  hash = hash_of input build write finish

  -- the hash of the lookup's argument
  abbrev pub fed : ℕ
  fed = finish (fold write (build b.hasher) query) % 2 ^ 64

  abbrev pub setting : List (Event K V S) → Setting (Option K) (Stored K V)
  setting log = setting_for eq hash b matches fed log

  abbrev pub coding : Coding (Option K) (Stored K V)
  coding = coding_for hash b.hasher fed

  -- it is a lawful further key
  pub key_form : (log : List (Event K V S)) → IsLawfulKey (setting_of eq (hash b.hasher) b.mode b.limit log) (coding_of (hash b.hasher)) matches fed
  key_form log = record {
    class = λ k h l. lawful.class k l h;
    hash_is = λ k h. ap (λ z. finish (fold write (build b.hasher) z) % 2 ^ 64) (lawful.feeds k h);
    hash_fits = mod-lt (finish (fold write (build b.hasher) query)) (omega arith);
  }

  pub hashed_with : (log : List (Event K V S)) → IsLawfulLog eq hash b log → IsHashed (setting log) coding
  hashed_with log l = key_lawful (setting_of eq (hash b.hasher) b.mode b.limit log) matches fed (coding_of (hash b.hasher))
      (is_hashed eq input build write finish classes respects b log l) (key_form log) (some_slot (entries_of log) l.sized)

  pub allowed_with : (log : List (Event K V S)) → IsLawfulLog eq hash b log → AllAllowed (setting log) start (exchanges_of log)
  allowed_with log l = all_alike (setting_of eq (hash b.hasher) b.mode b.limit log) (setting log)
      (key_alike (setting_of eq (hash b.hasher) b.mode b.limit log) matches fed) (exchanges_of log) start l.allowed

  -- the machine relies on the exchanges of the log, since the call began
  pub record ReliesOn (begun : List (Exchange (Stored K V))) (log : List (Event K V S)) (m : Machine) (loaded : LoadedPairs (Stored K V)) : Type 0 where
    pub since : List (Exchange (Stored K V))
    pub is : begun ++ since ≡ exchanges_of log
    pub relies : Relies (setting log) coding begun since None m loaded

  module _ (begun : List (Exchange (Stored K V))) (log : List (Event K V S)) (l : IsLawfulLog eq hash b log) (m : Machine)
      (loaded : LoadedPairs (Stored K V)) (r : ReliesOn begun log m loaded) where
    pub may : AllAllowed (setting log) start (begun ++ r.since)
    may = subst (AllAllowed (setting log) start) (sym r.is) (allowed_with log l)

    -- a longer log
    pub later : (log' : List (Event K V S)) → IsLawfulLog eq hash b log' → IsPrefix log log' → ReliesOn begun log' m loaded
    later log' l' pre =
        let es = exchanges_of pre.0 in
        let is : begun ++ (r.since ++ es) ≡ exchanges_of log' = sym (append_assoc begun r.since es)
        ∙ (ap (λ (z : List (Exchange (Stored K V))). z ++ es) r.is ∙ (sym (exchanges_of-append log pre.0) ∙ ap exchanges_of pre.1)) in
        let agree : Agrees (IsOn (state_of log).first (state_of log).next) (setting log) (setting log') =
        key_agrees (IsOn (state_of log).first (state_of log).next) (setting_of eq (hash b.hasher) b.mode b.limit log)
        (setting_of eq (hash b.hasher) b.mode b.limit log') (agrees_later eq input build write finish classes respects b log l log' pre) matches fed in
        let agree' : Agrees (IsOn (run (begun ++ r.since) start).first (run (begun ++ r.since) start).next) (setting log) (setting log') =
        subst (λ (z : List (Exchange (Stored K V))). Agrees (IsOn (run z start).first (run z start).next) (setting log) (setting log')) (sym r.is) agree in
        let carried = relies_carries (setting log) (setting log') coding (hashed_with log l) begun r.since may None agree' m loaded r.relies in
        record {
          since = r.since ++ es;
          is = is;
          relies = relies_stable (setting log') coding (hashed_with log' l') begun r.since es
              (subst (AllAllowed (setting log') start) (sym is) (allowed_with log' l')) None m loaded carried;
        }

    -- an answer that is true of the log's words, with which nothing is exchanged
    pub learned : (answer : Answer) (loaded' : LoadedPairs (Stored K V))
        → IsTrueOf (setting log) coding None (state_of log) (kind_of_ask m) loaded (ask_of m) answer [] loaded'
        → Relies (setting log) coding begun r.since None (after m answer) loaded'
    learned answer loaded' told =
        let told' : IsTrueOf (setting log) coding None (run (begun ++ r.since) start) (kind_of_ask m) loaded (ask_of m) answer [] loaded' =
        subst (λ (z : List (Exchange (Stored K V))).
        IsTrueOf (setting log) coding None (run z start) (kind_of_ask m) loaded (ask_of m) answer [] loaded') (sym r.is) told in
        let all = machine_learns (setting log) coding (hashed_with log l) begun r.since may None m loaded r.relies answer [] loaded' told' in
        subst (λ (z : List (Exchange (Stored K V))). Relies (setting log) coding begun z None (after m answer) loaded') (append-nil r.since) all.1
