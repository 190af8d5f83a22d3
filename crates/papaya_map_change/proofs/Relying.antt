-- A call over a chain of tables, with its key as a further key: the facts that it relies on, over
-- longer logs and after each answer.
use Rattle.std.proofs.Common.{◌≡◌, ℕ, Bool, true, Option, None, List, [], ◌++◌, append_assoc, sym, ap, ◌∙◌, subst}
use Rattle.std.specs.Cmp.{IsEquivalence}
use mathlib.Core.List.{IsPrefix}
use Rattle.boxcar.specs.Table.{Where}
use Rattle.papaya_call.specs.declared.ask.Answer.TheVariants.{Exchanged}
use Rattle.papaya_call.specs.declared.chain.ask.Answer.{Answer}
use Rattle.papaya_call.specs.declared.chain.ask.Answer.TheVariants as answers
use Rattle.papaya_call.specs.declared.chain.machine.Machine.{Machine}
use Rattle.papaya_call.specs.ChainMachine.{after, ask_of, follows_of, kind_of_ask}
use Rattle.papaya_call_law.specs.Goes.{link_in}
use Rattle.papaya_call_law.specs.ChainRelies.{Relies}
use Rattle.papaya_call_law.specs.ChainAnswers.{IsTrueOf, LoadedPairs}
use Rattle.papaya_call_law.proofs.Learns.{all_learns}
use Rattle.papaya_call_law.proofs.Stable.{all_carries, all_stable}
use Rattle.papaya_words_law.specs.Allows.{AllAllowed}
use Rattle.papaya_words_law.specs.Class.{IsOn}
use Rattle.papaya_words_law.specs.Code.{Coding, IsHashed}
use Rattle.papaya_words_law.specs.Exchange.{Exchange, Setting, run, start}
use Rattle.papaya_words_law.specs.Further.{IsLawfulKey, with_key}
use Rattle.papaya_words_law.specs.Grows.{Agrees}
use Rattle.papaya_words_law.proofs.Alike.{all_alike}
use Rattle.papaya_words_law.proofs.Further.{key_agrees, key_alike, key_lawful}
use Rattle.papaya_words_law.proofs.Moments.{allowed_first}
use Rattle.papaya_call_law.specs.Copier.{HasWords}
use Rattle.papaya_map_book.specs.declared.rule.entry.Begun.{Begun}
use Rattle.papaya_map_book.specs.declared.rule.entry.Event.{Event}
use Rattle.papaya_map_book.specs.declared.rule.entry.Named.TheVariants as names
use Rattle.papaya_map_book.specs.Hashes.{hash_of}
use Rattle.papaya_map_book.specs.Logs.{Stored, coding_of, entries_of, exchanges_of, number_of, setting_of, setting_with, state_of, steps_of, table_in}
use Rattle.papaya_map_book.specs.Rule.{IsLawfulLog}
use Rattle.papaya_map_book.specs.Sheets.{Sheet}
use Rattle.papaya_map_book.proofs.Linking.{with_agrees, with_allowed, with_hashed}
use Rattle.papaya_map_book.proofs.Logs.{exchanges_of-append}
use Rattle.papaya_map_book.proofs.Settings.{agrees_later, is_hashed}
use Rattle.papaya_map_book.proofs.TableSizes.{some_slot}
use Rattle.papaya_map_lookup.specs.Lookups.{coding_for, setting_for}

module _ {K V S H : Type 0} (eq : K → K → Bool) (input : K → List (List ℕ)) (build : S → H) (write : H → List ℕ → H) (finish : H → ℕ)
    (classes : IsEquivalence eq) (respects : (x y : K) → eq x y ≡ true → input x ≡ input y)
    (b : Begun K V S) (matches : K → Bool) (by : ℕ)
    (key : IsLawfulKey (setting_of {V = V} {S = S} eq (hash_of input build write finish b.hasher) b.mode b.limit [])
    (coding_of {V = V} (hash_of input build write finish b.hasher)) matches by) (k : Option K) (begun : List (Exchange (Stored K V))) where
  abbrev hash : S → K → ℕ
  hash = hash_of input build write finish

  -- the settings of a log, with the argument of the call as a further key and without it
  abbrev pub wide : List (Event K V S) → Setting (Option K) (Stored K V)
  wide log = setting_for eq hash b matches by log

  abbrev plain : List (Event K V S) → Setting K (Stored K V)
  plain log = setting_of eq (hash b.hasher) b.mode b.limit log

  abbrev pub coded : Coding (Option K) (Stored K V)
  coded = coding_for hash b.hasher by

  key_in : (log : List (Event K V S)) → IsLawfulKey (plain log) (coding_of (hash b.hasher)) matches by
  key_in log = record { class = key.class; hash_is = key.hash_is; hash_fits = key.hash_fits }

  pub hashed_in : (log : List (Event K V S)) → IsLawfulLog eq hash b log → IsHashed (wide log) coded
  hashed_in log l = key_lawful (plain log) matches by (coding_of (hash b.hasher)) (is_hashed eq input build write finish classes respects b log l)
      (key_in log) (some_slot (entries_of log) l.sized)

  pub allowed_in : (log : List (Event K V S)) → IsLawfulLog eq hash b log → AllAllowed (wide log) start (exchanges_of log)
  allowed_in log l = all_alike (plain log) (wide log) (key_alike (plain log) matches by) (exchanges_of log) start l.allowed

  -- a call over a chain relies on the exchanges of a log, since it began
  pub record ChainRelying (log : List (Event K V S)) (m : Machine) (loaded : LoadedPairs (Stored K V)) : Type 0 where
    pub since : List (Exchange (Stored K V))
    pub is : begun ++ since ≡ exchanges_of log
    pub relies : Relies (wide log) coded begun since k m loaded

  module _ (log : List (Event K V S)) (l : IsLawfulLog eq hash b log) (m : Machine) (loaded : LoadedPairs (Stored K V)) (r : ChainRelying log m loaded) where
    -- all exchanges were allowed
    pub relying_may : AllAllowed (wide log) start (begun ++ r.since)
    relying_may = subst (AllAllowed (wide log) start) (sym r.is) (allowed_in log l)

  -- the same if this table is the next to come
  module _ (w : Where Sheet) (log : List (Event K V S)) (l : IsLawfulLog eq hash b log) (none : table_in (steps_of log) (number_of w) ≡ None) where
    abbrev pub plain_with : Setting K (Stored K V)
    plain_with = setting_with eq (hash b.hasher) b.mode b.limit (names.Table w) log

    abbrev pub wide_with : Setting (Option K) (Stored K V)
    wide_with = with_key plain_with matches by

    pub hashed_with : IsHashed wide_with coded
    hashed_with = key_lawful plain_with matches by (coding_of (hash b.hasher)) (with_hashed eq input build write finish classes respects b log l w)
        (record { class = key.class; hash_is = key.hash_is; hash_fits = key.hash_fits }) (some_slot (entries_of log) l.sized)

    module _ (m : Machine) (loaded : LoadedPairs (Stored K V)) (r : ChainRelying log m loaded) where
      pub may_with : AllAllowed wide_with start (begun ++ r.since)
      may_with = subst (AllAllowed wide_with start) (sym r.is)
          (all_alike plain_with wide_with (key_alike plain_with matches by) (exchanges_of log) start
          (with_allowed eq input build write finish classes respects b log l w none))

      pub relies_with : Relies wide_with coded begun r.since k m loaded
      relies_with =
          let On = IsOn (state_of log).first (state_of log).next in
          let agree : Agrees On (wide log) wide_with = key_agrees On (plain log) plain_with
          (with_agrees eq input build write finish classes respects b log l w none) matches by in
          let agree' : Agrees (IsOn (run (begun ++ r.since) start).first (run (begun ++ r.since) start).next) (wide log) wide_with =
          subst (λ (z : List (Exchange (Stored K V))). Agrees (IsOn (run z start).first (run z start).next) (wide log) wide_with) (sym r.is) agree in
          all_carries (wide log) wide_with coded (hashed_in log l) begun r.since (relying_may log l m loaded r) agree' k m loaded r.relies

  module _ (log : List (Event K V S)) (l : IsLawfulLog eq hash b log) (m : Machine) (loaded : LoadedPairs (Stored K V))
      (r : ChainRelying log m loaded) (log' : List (Event K V S)) (l' : IsLawfulLog eq hash b log') (pre : IsPrefix log log') where
    -- the exchanges that have come since
    abbrev more : List (Exchange (Stored K V))
    more = exchanges_of pre.0

    longer : begun ++ (r.since ++ more) ≡ exchanges_of log'
    longer = sym (append_assoc begun r.since more)
        ∙ (ap (λ (z : List (Exchange (Stored K V))). z ++ more) r.is ∙ (sym (exchanges_of-append log pre.0) ∙ ap exchanges_of pre.1))

    -- the facts hold in the setting of the longer log, whose further tables make no difference
    pub carried : Relies (wide log') coded begun r.since k m loaded
    carried =
        let On = IsOn (state_of log).first (state_of log).next in
        let agree : Agrees On (wide log) (wide log') = key_agrees On (plain log) (plain log')
        (agrees_later eq input build write finish classes respects b log l log' pre) matches by in
        let agree' : Agrees (IsOn (run (begun ++ r.since) start).first (run (begun ++ r.since) start).next) (wide log) (wide log') =
        subst (λ (z : List (Exchange (Stored K V))). Agrees (IsOn (run z start).first (run z start).next) (wide log) (wide log')) (sym r.is) agree in
        all_carries (wide log) (wide log') coded (hashed_in log l) begun r.since (relying_may log l m loaded r) agree' k m loaded r.relies

    may_longer : AllAllowed (wide log') start (begun ++ (r.since ++ more))
    may_longer = subst (AllAllowed (wide log') start) (sym longer) (allowed_in log' l')

    -- the exchanges before were allowed in the longer log's setting
    pub may_first : AllAllowed (wide log') start (begun ++ r.since)
    may_first = allowed_first (wide log') (begun ++ r.since) more start
        (subst (AllAllowed (wide log') start) (sym (append_assoc begun r.since more)) may_longer)

    -- it relies on the longer log too
    pub relying_later : ChainRelying log' m loaded
    relying_later = record {
      since = r.since ++ more;
      is = longer;
      relies = all_stable (wide log') coded (hashed_in log' l') begun r.since more may_longer k m loaded carried;
    }

    -- an answer that is true of the words of the first log is true of the words that the call
    -- relies on
    pub told_then : (answer : Answer) (es : List (Exchange (Stored K V))) (loaded' : LoadedPairs (Stored K V))
        → IsTrueOf (wide log') coded k (state_of log) (kind_of_ask m) (follows_of m) loaded (ask_of m) answer es loaded'
        → IsTrueOf (wide log') coded k (run (begun ++ r.since) start) (kind_of_ask m) (follows_of m) loaded (ask_of m) answer es loaded'
    told_then answer es loaded' told = subst (λ (z : List (Exchange (Stored K V))).
        IsTrueOf (wide log') coded k (run z start) (kind_of_ask m) (follows_of m) loaded (ask_of m) answer es loaded') (sym r.is) told

    -- it receives an answer about the log's words, with which the log grew
    pub relying_told : (answer : Answer) → (answer ≡ answers.Call Exchanged → HasWords (wide log') (link_in m.phase))
        → (loaded' : LoadedPairs (Stored K V)) → IsTrueOf (wide log') coded k (state_of log) (kind_of_ask m) (follows_of m) loaded (ask_of m) answer more
        loaded' → ChainRelying log' (after m answer) loaded'
    relying_told answer words loaded' told =
        let all = all_learns (wide log') coded (hashed_in log' l') begun r.since may_first k m loaded carried answer words more loaded'
        (told_then answer more loaded' told) in
        record { since = r.since ++ more; is = longer; relies = all.1 }
