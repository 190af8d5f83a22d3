-- How many numbers for pairs are taken: no more than the limit allows, and each call has the core's
-- limit.
use Rattle.std.proofs.Common.{◌≡◌, ℕ, ◌+◌, ◌<◌, ◌≤◌, Bool, List, [], ◌∷◌, Option, None, Some, MatchOption, sym, ◌∙◌, ap, subst, arith}
use Rattle.papaya_call.specs.declared.ask.At.TheVariants.{Made}
use Rattle.papaya_words_law.specs.Allows.{Allows, AllAllowed}
use Rattle.papaya_words_law.specs.Exchange.{Setting, State, Exchange, Open, Claim, Replace, Bury, Link}
use Rattle.papaya_words_law.specs.Exchange.{Mark, Close, Place, Finish, Advance, Promote, Abort, Take}
use Rattle.papaya_words_law.specs.Exchange.{after, run, start}
use Rattle.papaya_call.specs.declared.made.Number.TheVariants.{Free}
use Rattle.papaya_call_law.specs.Relies.{ReliesNumber}
use Rattle.papaya_core_store.specs.declared.pairs.Running.{Running}
use Rattle.papaya_core_timeline.specs.Callers.{running}
use Rattle.papaya_core_timeline.specs.Core.{CoreState}
use Rattle.papaya_core_timeline.specs.Kept.{IsLawfulCore, coding_of, low, setting_of}
use Rattle.papaya_core.specs.Limits.{IsSpent, IsWithin}

-- no more than the limit, if there is one
abbrev pub Within : Option ℕ → ℕ → Type 0
Within most made = MatchOption most (Unit {0}) (λ n. made ≤ n)

-- before the first is taken
pub within_none : (most : Option ℕ) → Within most 0
within_none None = tt
within_none (Some n) = omega arith

-- one more is taken below it
taken_within : (most : Option ℕ) (made : ℕ) → MatchOption most (Unit {0}) (λ n. made < n) → Within most (made + 1)
taken_within None made below = tt
taken_within (Some n) made below = omega (arith, below)

-- as many as the limit allows, and no more
pub just : (most : Option ℕ) (n made : ℕ) → most ≡ Some n → n ≤ made → Within most made → most ≡ Some made
just None n made e up within = absurd (let f : None ≡ Some n = e in cc f)
just (Some m) n made e up within = let f : m ≡ n = cc e in let same : m ≡ made = omega (arith, f, up, within) in ap (λ y. Some y) same

module _ {K P : Type 0} (g : Setting K P) where
  -- an exchange
  once_within : (s : State P) (e : Exchange P) → Allows g s e → Within g.most s.made → Within g.most (after s e).made
  once_within s (Take m) may within = subst (λ made. Within g.most (made + 1)) may.0
      (taken_within g.most s.made (subst (λ made. MatchOption g.most (Unit {0}) (λ n. made < n)) (sym may.0) may.1))
  once_within s (Open t) may within = within
  once_within s (Claim t x p) may within = within
  once_within s (Replace t x p q) may within = within
  once_within s (Bury t x p) may within = within
  once_within s (Link t n) may within = within
  once_within s (Mark t x p) may within = within
  once_within s (Close t x) may within = within
  once_within s (Place n x p) may within = within
  once_within s (Finish t x p) may within = within
  once_within s (Advance n c) may within = within
  once_within s (Promote t n) may within = within
  once_within s (Abort n) may within = within

  -- a list of them
  pub all_within : (es : List (Exchange P)) (s : State P) → AllAllowed g s es → Within g.most s.made → Within g.most (run es s).made
  all_within [] s may within = within
  all_within (e ∷ es) s may within = all_within es (after s e) may.1 (once_within s e may.0 within)

module _ {K V S A : Type 0} (eq : K → K → Bool) (hash : K → ℕ) (s : CoreState K V S A) (lawful : IsLawfulCore eq hash s.store s.callers s.mode) where
  -- in each core
  pub core_within : IsWithin s
  core_within =
      let (es, (call_traces, kept)) = lawful.law in
      subst (Within s.mode.limit) (kept.coded Made) (all_within _ es start kept.allowed (within_none s.mode.limit))

  -- a call under way has the limit of its core
  pub own_limit : (caller : ℕ) (r : Running K V A) → running s.callers caller ≡ Some r → r.machine.call.made.limit ≡ s.mode.limit
  own_limit caller r was =
      let (es, (call_traces, kept)) = lawful.law in
      (kept.calls caller r was).relies.call.made.limit

  -- if a call loaded as many as its limit, all are taken
  pub spent_by : (caller : ℕ) (r : Running K V A) → running s.callers caller ≡ Some r → (most : ℕ) → r.machine.call.made.limit ≡ Some most
      → most ≤ s.store.words.made → IsSpent s
  spent_by caller r was most e up = just s.mode.limit most s.store.words.made (sym (own_limit caller r was) ∙ e) up core_within

  -- and a number that it is to take is free
  pub own_free : (caller : ℕ) (r : Running K V A) → running s.callers caller ≡ Some r → IsSpent s → (m : ℕ) → r.machine.call.made.number ≡ Free m
      → m < s.store.words.made
  own_free caller r was spent m e =
      let (es, (call_traces, kept)) = lawful.law in
      let call = kept.calls caller r was in
      below s.mode.limit spent (subst (ReliesNumber (setting_of eq (low hash) s.mode s.store.words.tables) (coding_of (low hash))
      (call_traces caller).begun (call_traces caller).since call.key) e call.relies.call.made.number_is)
    where
      below : (limit : Option ℕ) → limit ≡ Some s.store.words.made → MatchOption limit (Unit {0}) (λ n. m < n) → m < s.store.words.made
      below None none free = absurd cc
      below (Some n) same free = let f : n ≡ s.store.words.made = cc same in subst (λ y. m < y) f free
