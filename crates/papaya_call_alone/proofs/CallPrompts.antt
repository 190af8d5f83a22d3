-- An answer to a call that is true of the law's words is the one that the words determine.
use Rattle.std.proofs.Common.{◌≡◌, ⊎_elim, ℕ, ◌==◌, ◌&&◌, Bool, true, false, Option, Some, None, List, [], ◌++◌, cond, refl, sym, ap, ◌∙◌, subst, eqb-true}
use Rattle.papaya_words.specs.Word.{live_word, pair_of}
use Rattle.papaya_call.specs.declared.ask.Ask.{Ask}
use Rattle.papaya_call.specs.declared.ask.Ask.TheVariants.{Load, Exchange as Ask_exchange, SameKey}
use Rattle.papaya_call.specs.declared.ask.Ask.TheVariants.{ShowNone, ShowPair, SizeOf, MakeKey}
use Rattle.papaya_call.specs.declared.ask.Ask.TheVariants.{MakeValue, MakePair, MakePairOf}
use Rattle.papaya_call.specs.declared.ask.Ask.TheVariants.{MakeTable, AddToShard, Done as Ask_done}
use Rattle.papaya_call.specs.declared.ask.Ask.TheVariants.{LoadHint, WriteHint}
use Rattle.papaya_call.specs.declared.ask.Answer.{Answer}
use Rattle.papaya_call.specs.declared.ask.At.{At}
use Rattle.papaya_call.specs.declared.ask.At.TheVariants as words_at
use Rattle.papaya_call.specs.declared.ask.StepKind.{StepKind}
use Rattle.papaya_call.specs.declared.ask.StepKind.TheVariants as kinds
use Rattle.papaya_call.specs.declared.search.Search.TheVariants.{Sizing, Looking, Reading, Comparing}
use Rattle.papaya_call.specs.declared.machine.Machine.{Machine}
use Rattle.papaya_call.specs.declared.machine.State.{State as Stage}
use Rattle.papaya_call.specs.declared.machine.State.TheVariants.{AtRoot, Making, Opening, Searching}
use Rattle.papaya_call.specs.declared.machine.State.TheVariants.{Writing, Offering, Showing}
use Rattle.papaya_call.specs.declared.machine.State.TheVariants.{Pairing, Putting, Burying}
use Rattle.papaya_call.specs.declared.machine.State.TheVariants.{Counting, Noting, Uncounting}
use Rattle.papaya_call.specs.declared.machine.State.TheVariants.{Leaving, Growing, Ended}
use Rattle.papaya_call.specs.declared.made.Made.{Made}
use Rattle.papaya_call.specs.Machine.{ask_of, asks, kind_of_ask}
use Rattle.papaya_words_law.specs.Allows.{AllAllowed}
use Rattle.papaya_words_law.specs.Code.{Coding, IsHashed, code}
use Rattle.papaya_words_law.specs.Exchange.{Word, Live, Setting, State, Exchange, Bury, after, run, slot_put, start}
use Rattle.papaya_words_law.specs.Invariant.{IsKeeping}
use Rattle.papaya_words_law.specs.Meaning.{map_left}
use Rattle.papaya_words_law.proofs.Codes.{code_pair}
use Rattle.papaya_words_law.proofs.OneMap.{keeping}
use Rattle.papaya_call_law.specs.Alone.{IsPrompt, IsSame}
use Rattle.papaya_call_law.specs.Relies.{Relies, ReliesStage}
use Rattle.papaya_call_law.specs.TrueAnswers.{IsAsked, IsOwnWord, IsTrueOf, LoadedPairs, word_of}
use Rattle.papaya_call_law.proofs.Makings.{IsPairAsk, IsWriteAsk, pairing_asks, write_asks}
use Rattle.papaya_call_law.proofs.ReliesExchange.{machine_may}
use Rattle.papaya_call_law.proofs.ReliesNames.{IsNamed, ask_named}
use Rattle.papaya_call_alone.specs.Prompt.{IsBounded, IsServed}
use Rattle.papaya_call_alone.proofs.CallRanks.{IsNumberAsked}
use Rattle.papaya_call_alone.proofs.CopyPrompts.{by_each, number_there}

module _ {K P : Type 0} (g : Setting K P) (c : Coding K P) (s : State P) (k : K) (loaded : LoadedPairs P) where
  -- two words of the law with the same number, put in the same slot
  put_alike : (v w old : Word P) (b : Bool) → code g c v ≡ code g c w → code g c (cond b v old) ≡ code g c (cond b w old)
  put_alike v w old true e = e
  put_alike v w old false e = refl

  -- pairs that the call made are represented by one word
  own_alike : (new : ℕ) (p q : P) → IsOwnWord c loaded new p → IsOwnWord c loaded new q → code g c (Live p) ≡ code g c (Live q)
  own_alike new p q a b =
      let number : c.number p ≡ c.number q = a.named ∙ sym b.named in
      ap live_word number

  -- so a slot has one number either way
  slots_alike : (t x : ℕ) (v w : Word P) → code g c v ≡ code g c w → (a : At) → word_of g c (slot_put s t x v) a ≡ word_of g c (slot_put s t x w) a
  slots_alike t x v w e words_at.Root = refl
  slots_alike t x v w e (words_at.Next u) = refl
  slots_alike t x v w e (words_at.Aborted u) = refl
  slots_alike t x v w e (words_at.Done u chunk) = refl
  slots_alike t x v w e words_at.Made = refl
  slots_alike t x v w e (words_at.Slot u y) = put_alike v w (s.slot u y) ((u == t) && (y == x)) e

  -- two exchanges that satisfy the same ask leave the same words
  asked_alike : (kind : Option StepKind) (at : At) (new : ℕ) (e e' : Exchange P) → IsAsked g c k kind at new s loaded e
      → IsAsked g c k kind at new s loaded e' → (a : At) → word_of g c (after s e) a ≡ word_of g c (after s e') a
  asked_alike (Some kinds.Open) words_at.Root new e e' h i a = ap (λ y. word_of g c (after s y) a) (h ∙ sym i)
  asked_alike (Some kinds.Claim) (words_at.Slot t x) new e e' (p, own, same, is) (q, own', same', is') a =
      ap (λ y. word_of g c (after s y) a) is ∙ slots_alike t x (Live p) (Live q) (own_alike new p q own own') a ∙ sym (ap (λ y. word_of g c (after s y) a) is')
  asked_alike (Some kinds.Replace) (words_at.Slot t x) new e e' (o, p, live, own, same, is) (o', q, live', own', same', is') a =
      ap (λ y. word_of g c (after s y) a) is ∙ slots_alike t x (Live p) (Live q) (own_alike new p q own own') a ∙ sym (ap (λ y. word_of g c (after s y) a) is')
  asked_alike (Some kinds.Bury) (words_at.Slot t x) new e e' (p, live, is) (q, live', is') a =
      let same : p ≡ q = cc (live, live') in
      ap (λ y. word_of g c (after s y) a) (is ∙ ap (Bury t x) same ∙ sym is')
  asked_alike (Some kinds.Take) words_at.Made new e e' h i a = ap (λ y. word_of g c (after s y) a) (h ∙ sym i)
  asked_alike kind at new e e' h i a = absurd h

module _ {K P : Type 0} (g : Setting K P) (c : Coding K P) (hashed : IsHashed g c) (begun since : List (Exchange P))
    (may : AllAllowed g start (begun ++ since)) (k : K) where
  -- the state after all exchanges
  abbrev now : State P
  now = run (begun ++ since) start

  -- the state preserves the map
  keeps : IsKeeping g now (map_left g (begun ++ since))
  keeps = keeping g hashed.lawful (begun ++ since) may

  module _ (bounded : IsBounded g now) (m : Machine) (loaded : LoadedPairs P) (r : Relies g c begun since k m loaded) where
    -- if nothing was exchanged
    same_none : (es : List (Exchange P)) → es ≡ [] → IsSame (word_of g c now) (word_of g c (run es now))
    same_none es none at = ap (λ l. word_of g c (run l now) at) none

    -- a pair whose key is compared is the one last passed to the machine
    compared_in : (made : Made) (stage : Stage) → ReliesStage g c begun since k loaded m.task stage → (n : ℕ) → asks made m.hash stage ≡ SameKey n
        → (p : P) × (loaded.last ≡ Some p) × (c.number p ≡ n)
    compared_in made AtRoot x n e = absurd cc
    compared_in made Making x n e = absurd cc
    compared_in made (Opening u) x n e = absurd cc
    compared_in made (Searching (Sizing u)) x n e = absurd cc
    compared_in made (Searching (Looking at)) x n e = absurd cc
    compared_in made (Searching (Reading at)) x n e = absurd cc
    compared_in made (Searching (Comparing at word)) x n e = let is : pair_of word ≡ n = cc e in
        (x.0, x.1, sym (ap pair_of x.2.as_loaded ∙ (code_pair g c hashed.coding x.2.was x.0 x.2.names)) ∙ is)
    compared_in made (Writing write) x n e = absurd (subst IsWriteAsk e (write_asks made write))
    compared_in made (Offering gap) x n e = absurd cc
    compared_in made (Showing removal) x n e = absurd cc
    compared_in made (Pairing purpose) x n e = absurd (subst IsPairAsk e (pairing_asks made purpose))
    compared_in made (Putting put) x n e = absurd cc
    compared_in made (Burying removal) x n e = absurd cc
    compared_in made (Counting i) x n e = absurd cc
    compared_in made (Noting i) x n e = absurd cc
    compared_in made (Uncounting i) x n e = absurd cc
    compared_in made (Leaving u) x n e = absurd cc
    compared_in made (Growing u) x n e = absurd cc
    compared_in made (Ended reply) x n e = absurd cc

    -- a next table on the chain has a greater number
    number_in : (ask : Ask) → IsNamed g c hashed begun since may k ask → IsNumberAsked (word_of g c now) ask
    number_in (Load words_at.Root) named = tt
    number_in (Load (words_at.Next t)) named = number_there g c hashed now (map_left g (begun ++ since)) keeps bounded
        (record { call = loaded; kept = None }) (words_at.Next t) named
    number_in (Load (words_at.Aborted t)) named = tt
    number_in (Load (words_at.Done t chunk)) named = tt
    number_in (Load (words_at.Slot t x)) named = tt
    number_in (Load words_at.Made) named = tt
    number_in (Ask_exchange at old new) named = tt
    number_in (LoadHint t x) named = tt
    number_in (WriteHint t x hint) named = tt
    number_in (SameKey n) named = tt
    number_in ShowNone named = tt
    number_in (ShowPair n) named = tt
    number_in (SizeOf t) named = tt
    number_in MakeKey named = tt
    number_in MakeValue named = tt
    number_in MakePair named = tt
    number_in (MakePairOf n) named = tt
    number_in (MakeTable slots limit chunks) named = tt
    number_in (AddToShard by) named = tt
    number_in (Ask_done reply) named = tt

    -- the word that a call asks to load holds a number
    pub asked_number : IsNumberAsked (word_of g c now) (ask_of m)
    asked_number = number_in (ask_of m) (ask_named g c hashed begun since may k loaded m.task m.hash m.made m.state r.stage)

    -- an answer is prompt
    prompt_of : (ask : Ask) → ask_of m ≡ ask → (answer : Answer) (es : List (Exchange P)) (loaded' : LoadedPairs P) → IsServed m.task ask answer
        → IsTrueOf g c k now (kind_of_ask m) loaded ask answer es loaded' → IsPrompt m.task (word_of g c now) ask answer (word_of g c (run es now))
    prompt_of (Load at) is answer es loaded' served told = (told.0, same_none es told.1)
    prompt_of (Ask_exchange at old new) is answer es loaded' served told =
        by_each (word_of g c now at == old)
        (λ e (a, (x, asked, one), h').
        let made = machine_may g c hashed begun since may k m loaded r at old new is (eqb-true (word_of g c now at) old e) in
        let alike : (b : At) → word_of g c (run es now) b ≡ word_of g c (after now made.0) b = λ b. ap (λ l. word_of g c (run l now) b) one
        ∙ asked_alike g c now k loaded (kind_of_ask m) at new x made.0 asked made.1 b in
        (a, record { here = alike at ∙ made.3.here; others = λ other differs. alike other ∙ made.3.others other differs }))
        (λ e (a, none, h'). (a, same_none es none)) told
    prompt_of (LoadHint t x) is answer es loaded' served told = ((told.0.0, told.0.2), same_none es told.1.0)
    prompt_of (WriteHint t x hint) is answer es loaded' served told = (told.0, same_none es told.1.0)
    prompt_of (SameKey n) is answer es loaded' served told =
        let (p, was, number) = compared_in m.made m.state r.stage n is in
        ((g.same k (g.key p), told.0 p was number), same_none es told.1.0)
    prompt_of ShowNone is answer es loaded' served told = (served, same_none es told.1.0)
    prompt_of (ShowPair n) is answer es loaded' served told = (served, same_none es told.1.0)
    prompt_of (SizeOf t) is answer es loaded' served told =
        let (limit, most, e) = told.0 in
        let on = subst (IsNamed g c hashed begun since may k) is (ask_named g c hashed begun since may k loaded m.task m.hash m.made m.state r.stage) in
        ((g.size t, limit, bounded.size t limit on most, e), same_none es told.1.0)
    prompt_of MakeKey is answer es loaded' served told = (served, same_none es told.1.0)
    prompt_of MakeValue is answer es loaded' served told = (served, same_none es told.1.0)
    prompt_of MakePair is answer es loaded' served told = (served, same_none es (⊎_elim (λ h. h.1.0) (λ h. h.2.1) told))
    prompt_of (MakePairOf n) is answer es loaded' served told = (served, same_none es (⊎_elim (λ h. h.1.0) (λ h. h.2.1) told))
    prompt_of (MakeTable slots limit chunks) is answer es loaded' served told = (served, same_none es told.1.0)
    prompt_of (AddToShard by) is answer es loaded' served told = (told.0, same_none es told.1.0)
    prompt_of (Ask_done reply) is answer es loaded' served told = absurd served

    -- for the whole call
    pub call_prompt : (answer : Answer) (es : List (Exchange P)) (loaded' : LoadedPairs P) → IsServed m.task (ask_of m) answer
        → IsTrueOf g c k now (kind_of_ask m) loaded (ask_of m) answer es loaded' → IsPrompt m.task (word_of g c now) (ask_of m) answer (word_of g c (run es now))
    call_prompt answer es loaded' served told = prompt_of (ask_of m) refl answer es loaded' served told
