-- An answer to a copier that is true of the law's words is the one that the words determine.
use Rattle.std.proofs.Common.{◌≡◌, inl, inr, ⊎_elim, ℕ, ◌<◌, ◌==◌, Bool, true, false, Option, List, [], refl, sym, ap, ◌∙◌, subst, arith, eqb-true}
use Rattle.std.specs.Prelude.{MatchBool}
use Rattle.papaya_words.specs.declared.refused.Refused.{Refused}
use Rattle.papaya_words.specs.declared.word.Kind.TheVariants as word_kinds
use Rattle.papaya_call.specs.declared.ask.Answer.TheVariants.{Made as Made_number, Refused as Was_refused}
use Rattle.papaya_call.specs.declared.ask.At.{At}
use Rattle.papaya_call.specs.declared.ask.At.TheVariants as words_at
use Rattle.papaya_call.specs.declared.ask.StepKind.{StepKind}
use Rattle.papaya_call.specs.declared.copy_ask.CopyAsk.{CopyAsk}
use Rattle.papaya_call.specs.declared.copy_ask.CopyAsk.TheVariants.{Load, Exchange as Ask_exchange}
use Rattle.papaya_call.specs.declared.copy_ask.CopyAsk.TheVariants.{SizeOf, HashOf, SamePair, Count}
use Rattle.papaya_call.specs.declared.copy_ask.CopyAsk.TheVariants.{MakeTable, LoadHint, WriteHint}
use Rattle.papaya_call.specs.declared.chain.ask.Answer.{Answer}
use Rattle.papaya_call.specs.declared.chain.ask.Answer.TheVariants as answers
use Rattle.papaya_words_law.specs.Allows.{Allows}
use Rattle.papaya_words_law.specs.Code.{Coding, IsHashed, code, kind}
use Rattle.papaya_words_law.specs.Exchange.{Word, Empty, Closed, Live, Marked, Copied, Buried, Setting, State, Exchange, after, run}
use Rattle.papaya_words_law.specs.Invariant.{IsKeeping}
use Rattle.papaya_words_law.proofs.Chain.{next_on}
use Rattle.papaya_words_law.proofs.Codes.{code_kind}
use Rattle.papaya_words_law.proofs.OneMap.{keeping_sound}
use Rattle.papaya_call_law.specs.Alone.{IsBare, IsSame}
use Rattle.papaya_call_law.specs.Copier.{AreThere, IsCopyAsked, IsThere}
use Rattle.papaya_call_law.specs.TrueAnswers.{IsWritten, word_of}
use Rattle.papaya_call_law.proofs.CopierExchange.{one_asked}
use Rattle.papaya_call_law.specs.ChainAnswers.{IsTrueOfCopy, LoadedPairs}
use Rattle.papaya_call_alone.specs.Prompt.{IsBounded, IsCopyPrompt, IsNumber}

-- by each outcome of a test
pub by_each : (b : Bool) {A B C D : Type 0} → (b ≡ true → A → C) → (b ≡ false → B → D) → MatchBool b A B → MatchBool b C D
by_each true f h x = f refl x
by_each false f h x = h refl x

module _ {K P : Type 0} (g : Setting K P) (c : Coding K P) (s : State P) where
  -- an empty slot's word is 0
  empty_none : (w : Word P) → kind w ≡ word_kinds.Empty → code g c w ≡ 0
  empty_none Empty e = refl
  empty_none Closed e = absurd cc
  empty_none (Live p) e = absurd cc
  empty_none (Marked p) e = absurd cc
  empty_none (Copied p) e = absurd cc
  empty_none (Buried p) e = absurd cc

  -- so the words are bare
  pub words_bare : IsBare (word_of g c s)
  words_bare t i e = empty_none (s.slot t i) (sym (code_kind g c (s.slot t i)) ∙ e)

module _ {K P : Type 0} (g : Setting K P) (c : Coding K P) (hashed : IsHashed g c) (s : State P) (m : K → Option P) (keeps : IsKeeping g s m)
    (bounded : IsBounded g s) (loaded : LoadedPairs P) where
  -- the words
  abbrev words : At → ℕ
  words = word_of g c s

  -- if nothing was exchanged
  same_none : (es : List (Exchange P)) → es ≡ [] → IsSame words (word_of g c (run es s))
  same_none es none at = ap (λ l. word_of g c (run l s) at) none

  -- a next table on the chain has a greater number
  pub number_there : (at : At) → IsThere g c s loaded.call.last loaded.kept at → IsNumber words at
  number_there words_at.Root there = tt
  number_there (words_at.Next t) there =
      ⊎_elim
      (λ (e : s.next t ≡ 0). inl e)
      (λ (h : (0 < t) × (t < s.next t)). let less = h.1 in
      inr (less, bounded.number (s.next t) (next_on s.next (keeping_sound g s m keeps).rises s.first t there (omega (arith, less)))))
      ((keeping_sound g s m keeps).rises t)
  number_there (words_at.Aborted t) there = tt
  number_there (words_at.Done t chunk) there = tt
  number_there (words_at.Slot t x) there = tt
  number_there words_at.Made there = absurd there

  module _ (kind_asked : Option StepKind) (behind : ℕ) where
    -- an exchange of a word whose expected value is there is one of the law
    abbrev pub MayAsk : CopyAsk → Type 0
    MayAsk q = (at : At) (old new : ℕ) → q ≡ Ask_exchange at old new → word_of g c s at ≡ old → (e : Exchange P)
        × IsCopyAsked c kind_asked at new s loaded.kept e × Allows g s e × IsWritten g c s at new (after s e)

    -- an answer is prompt
    pub told_prompt : (q : CopyAsk) → AreThere g c s loaded.call.last loaded.kept q → MayAsk q
        → (answer : Answer) (es : List (Exchange P)) (loaded' : LoadedPairs P) → IsTrueOfCopy g c s kind_asked behind loaded q answer es loaded'
        → IsCopyPrompt words q answer (word_of g c (run es s))
    told_prompt (Load at) there may answer es loaded' told = ((told.0, number_there at there), same_none es told.1)
    told_prompt (Ask_exchange at old new) there may answer es loaded' told =
        by_each (word_of g c s at == old)
        (λ e (a, (x, asked, one, h')).
        let made = may at old new refl (eqb-true (word_of g c s at) old e) in
        let same : made.0 ≡ x = one_asked c kind_asked at new s loaded.kept made.0 x made.1 asked in
        let put : IsWritten g c s at new (run es s) = subst (λ l. IsWritten g c s at new (run l s)) (sym one)
        (subst (λ y. IsWritten g c s at new (after s y)) same made.3) in
        (a, record { here = put.here; others = put.others }))
        (λ e (a, none, h'). (a, same_none es none)) told
    told_prompt (LoadHint t x) there may answer es loaded' told = ((told.0.0, told.0.2), same_none es told.1.0)
    told_prompt (WriteHint t x hint) there may answer es loaded' told = (told.0, same_none es told.1.0)
    told_prompt (SizeOf t) there may answer es loaded' told =
        let (limit, most, e) = told.0 in
        ((g.size t, limit, bounded.size t limit there most, e), same_none es told.1.0)
    told_prompt (HashOf n) there may answer es loaded' told =
        let (p, is, number) = there in
        ((c.hash (g.key p), told.0 p is number), same_none es told.1)
    told_prompt (SamePair i n) there may answer es loaded' told =
        let (o, q, carried, is, first, second) = there in
        ((g.same (g.key o) (g.key q), told.0 o q carried first is second), same_none es told.1.0)
    told_prompt Count there may answer es loaded' told = (told.0, same_none es told.1.0)
    told_prompt (MakeTable slots limit chunks) there may answer es loaded' told = (
      ⊎_elim (λ (u : (refused : Refused) × (answer ≡ answers.Call (Was_refused refused))). inr u)
          (λ (n : (n : ℕ) × (behind < n) × (answer ≡ answers.Call (Made_number n))). inl (n.0, n.2)) told.0,
      same_none es told.1.0,
    )
