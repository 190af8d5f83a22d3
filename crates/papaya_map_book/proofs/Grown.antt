-- The log after one more exchange that brings in no table: it satisfies the rule.
use Rattle.std.proofs.Common.{◌≡◌, ◌⊎◌, inl, inr, ⊎_elim, ℕ, ◌<◌, Bool, true, false, cond, Option}
use Rattle.std.proofs.Common.{None, Some, List, [], ◌∷◌, ◌++◌, slice_get, refl, sym, ap, ◌∙◌, subst}
use Rattle.std.proofs.Common.{arith}
use Rattle.std.proofs.lemmas.List.{append-nil}
use Rattle.logbook.specs.Pages.{Book}
use Rattle.papaya_call.specs.declared.ask.At.{At}
use Rattle.papaya_call.specs.declared.ask.At.TheVariants.{Next, Aborted, Done, Slot}
use Rattle.papaya_words_law.specs.Allows.{Allows, AllAllowed}
use Rattle.papaya_words_law.specs.Code.{Coding, code}
use Rattle.papaya_words_law.specs.Exchange.{Setting, State, after, start}
use Rattle.papaya_words_law.specs.Grows.{AllSized, Entry, IsLawfulPlan, Plan, brings, exchanges, setting_in}
use Rattle.papaya_words.specs.declared.resize_mode.ResizeMode.{ResizeMode}
use Rattle.papaya_call_law.specs.TrueAnswers.{IsWritten, word_of}
use Rattle.papaya_words_law.proofs.Codes.{code_empty}
use Rattle.papaya_words_law.proofs.Logs.{log_grows, lawful_in}
use Rattle.papaya_map_book.specs.declared.rule.entry.Begun.{Begun}
use Rattle.papaya_map_book.specs.declared.rule.entry.Step.{Step}
use Rattle.papaya_map_book.specs.declared.rule.entry.Step.TheVariants as steps
use Rattle.papaya_map_book.specs.declared.rule.entry.Event.{Event}
use Rattle.papaya_map_book.specs.declared.rule.entry.Event.TheVariants.{Stepped}
use Rattle.papaya_map_book.specs.Logs.{Stored, coding_of, comes, entries_of, entry_of, exchange_of}
use Rattle.papaya_map_book.specs.Logs.{exchanges_of, in_table, key_at, name_in, plan_of, seals_of}
use Rattle.papaya_map_book.specs.Logs.{setting_of, state_of, steps_of, table_in}
use Rattle.papaya_map_book.specs.Rule.{IsBlank, IsLawfulLog, IsPlaced, word_in}
use Rattle.papaya_map_book.proofs.Logs.{IsQuiet, brings_none, entered_last, entries-append, name-append}
use Rattle.papaya_map_book.proofs.Logs.{or_nothing, same_key, same_table, seals-append, setting_same}
use Rattle.papaya_map_book.proofs.Logs.{state_more, steps-append}

-- entries of a log that give their tables a slot and a place, and one that brings none
pub sized_more : {P : Type 0} (es : List (Entry P)) (e : Entry P) → AllSized es → ((n : ℕ) → brings e.by n ≡ true → (0 < e.size) × (0 < e.places))
    → AllSized (es ++ e ∷ [])
sized_more [] e s h = (h, tt)
sized_more (f ∷ es) e s h = (s.0, sized_more es e s.1 h)

-- no exchange takes the root away
root_stays : {K V : Type 0} (g : Setting K (Stored K V)) (s : State (Stored K V)) (e : Step K V) → Allows g s (exchange_of e) → IsQuiet (comes e)
    → (after s (exchange_of e)).root ≡ 0 → s.root ≡ 0
root_stays g s (steps.Open w) a q h = absurd q
root_stays g s (steps.Claim t x p) a q h = h
root_stays g s (steps.Replace t x p p') a q h = h
root_stays g s (steps.Bury t x p) a q h = h
root_stays g s (steps.Link t w) a q h = absurd q
root_stays g s (steps.Mark t x p) a q h = h
root_stays g s (steps.Close t x) a q h = h
root_stays g s (steps.Place t x p) a q h = h
root_stays g s (steps.Finish t x p) a q h = h
root_stays g s (steps.Advance t c) a q h = h
root_stays g s (steps.Promote t n) a q h = let m = a.target.made in absurd (omega arith)
root_stays g s (steps.Abort t) a q h = h
root_stays g s (steps.Take m) a q h = h

abbrev flag_of : Bool → ℕ
flag_of z = cond z 1 0

flag_zero : (b : Bool) → ◌≡◌ {A = ℕ} (cond b 1 0) 0 → b ≡ false
flag_zero true e = absurd (omega arith)
flag_zero false e = refl

-- a table stays blank if no word of it changes
pub blank_stays : {K P : Type 0} (g : Setting K P) (c : Coding K P) (s s' : State P) (t : ℕ)
    → ((at : At) → (at ≡ Next t) ⊎ (at ≡ Aborted t) ⊎ ((d : ℕ) × (at ≡ Done t d)) ⊎ ((x : ℕ) × (at ≡ Slot t x))
    → word_of g c s' at ≡ word_of g c s at) → IsBlank s t → IsBlank s' t
blank_stays g c s s' t same b = record {
  next = same (Next t) (inl refl) ∙ b.next;
  aborted = flag_zero (s'.aborted t) (same (Aborted t) (inr (inl refl)) ∙ ap flag_of b.aborted);
  done = λ d. flag_zero (s'.done t d) (same (Done t d) (inr (inr (inl (d, refl)))) ∙ ap flag_of (b.done d));
  slots = λ x. code_empty g c (s'.slot t x) (same (Slot t x) (inr (inr (inr (x, refl)))) ∙ ap (code g c) (b.slots x));
}

-- a word of a table that has not come has no key
pub keyless : {K V : Type 0} (es : List (Step K V)) (t : ℕ) (at : At) → (at ≡ Next t) ⊎ (at ≡ Aborted t) ⊎ ((d : ℕ) × (at ≡ Done t d))
    ⊎ ((x : ℕ) × (at ≡ Slot t x)) → table_in es t ≡ None → key_at es at ≡ None
keyless es t at (inl e) n = ap (key_at es) e ∙ ap (in_table (λ s. Some s.next)) n
keyless es t at (inr (inl e)) n = ap (key_at es) e ∙ ap (in_table (λ s. Some s.seal)) n
keyless es t at (inr (inr (inl (d, e)))) n = ap (key_at es) e ∙ ap (in_table (λ s. slice_get s.done d)) n
keyless es t at (inr (inr (inr (x, e)))) n = ap (key_at es) e ∙ ap (in_table (λ s. slice_get s.slots x)) n

module _ {K V S : Type 0} (eq : K → K → Bool) (hash : S → K → ℕ)
    (plans : (mode : ResizeMode) (most : Option ℕ) (s : S) → IsLawfulPlan (plan_of {V = V} eq (hash s) mode most))
    (b : Begun K V S) (log : List (Event K V S)) (l : IsLawfulLog eq hash b log) (e : Step K V) (quiet : IsQuiet (comes e)) (at : At) (k new : ℕ)
    (key : key_at (steps_of log) at ≡ Some k)
    (may : Allows (setting_of eq (hash b.hasher) b.mode b.limit log) (state_of log) (exchange_of e))
    (written : IsWritten (setting_of eq (hash b.hasher) b.mode b.limit log) (coding_of (hash b.hasher)) (state_of log) at new
    (after (state_of log) (exchange_of e)))
    (placed : IsPlaced b (name_in log) (comes e)) where
  abbrev log' : List (Event K V S)
  log' = log ++ Stepped e ∷ []

  abbrev g : Setting K (Stored K V)
  g = setting_of eq (hash b.hasher) b.mode b.limit log

  abbrev c : Coding K (Stored K V)
  c = coding_of (hash b.hasher)

  abbrev plan : Plan K (Stored K V)
  plan = plan_of eq (hash b.hasher) b.mode b.limit

  pub same_setting : setting_of eq (hash b.hasher) b.mode b.limit log' ≡ g
  same_setting = setting_same eq (hash b.hasher) b.mode b.limit log e quiet

  pub same_name : name_in log' ≡ name_in log
  same_name = name-append log (Stepped e ∷ []) ∙ or_nothing (name_in log)

  pub same_seals : seals_of log' ≡ seals_of log
  same_seals = seals-append log (Stepped e ∷ []) ∙ append-nil (seals_of log)

  pub same_tables : (t : ℕ) → table_in (steps_of log') t ≡ table_in (steps_of log) t
  same_tables t = ap (λ (l : List (Step K V)). table_in l t) (steps-append log (Stepped e ∷ [])) ∙ same_table (steps_of log) e t quiet

  pub same_keys : (at : At) → key_at (steps_of log') at ≡ key_at (steps_of log) at
  same_keys at = ap (λ (l : List (Step K V)). key_at l at) (steps-append log (Stepped e ∷ [])) ∙ same_key (steps_of log) e at quiet

  pub allowed_more : AllAllowed (setting_of eq (hash b.hasher) b.mode b.limit log') start (exchanges_of log')
  allowed_more =
      let entries : entries_of log' ≡ entries_of log ++ entry_of e ∷ [] = entries-append log (Stepped e ∷ []) in
      let setting : setting_in plan (entries_of log ++ entry_of e ∷ []) ≡ g = ap (setting_in plan) (sym entries) ∙ same_setting in
      let law = lawful_in plan (plans b.mode b.limit b.hasher) (entries_of log) l.sized in
      let grown = log_grows plan (entries_of log) (entry_of e) law l.allowed
      (subst (λ (h : Setting K (Stored K V)). Allows h (state_of log) (exchange_of e)) (sym setting) may) in
      subst (λ (es : List (Entry (Stored K V))). AllAllowed (setting_in plan es) start (exchanges es)) (sym entries) grown

  -- a word of the longer log
  pub word_more : (at' : At) → word_in eq hash b log' at' ≡ word_of g c (after (state_of log) (exchange_of e)) at'
  word_more at' = let state = state_more log e in λ i. word_of (same_setting i) c (state i) at'

  pub lawful_more : IsLawfulLog eq hash b log'
  lawful_more = record {
    rest = l.rest ++ Stepped e ∷ [];
    is = ap (λ (z : List (Event K V S)). z ++ Stepped e ∷ []) l.is;
    allowed = allowed_more;
    sized = subst AllSized (sym (entries-append log (Stepped e ∷ [])))
        (sized_more (entries_of log) (entry_of e) l.sized (λ n h. let none = brings_none e n quiet in absurd (cc (h, none))));
    placed = λ n h. subst (λ (o : Option Book). IsPlaced b o n) (sym same_name)
        (⊎_elim (λ i. l.placed n i) (λ i. subst (IsPlaced b (name_in log)) i placed) (entered_last n log (Stepped e) h));
    blank = λ t none.
        let none' : table_in (steps_of log) t ≡ None = sym (same_tables t) ∙ none in
        subst (λ (s : State (Stored K V)). IsBlank s t) (sym (state_more log e))
        (blank_stays g c (state_of log) (after (state_of log) (exchange_of e)) t
        (λ at' of_t. written.others at' (λ same. let gone : key_at (steps_of log) at' ≡ None = keyless (steps_of log) t at' of_t none' in
        let there : key_at (steps_of log) at' ≡ Some k = ap (key_at (steps_of log)) same ∙ key in cc (gone, there)))
        (l.blank t none'));
    unopened = λ r t. same_tables t ∙ l.unopened
        (root_stays g (state_of log) e may quiet (ap (λ (s : State (Stored K V)). s.root) (sym (state_more log e)) ∙ r)) t;
    apart = λ at' at'' j x y. l.apart at' at'' j (sym (same_keys at') ∙ x) (sym (same_keys at'') ∙ y);
  }
