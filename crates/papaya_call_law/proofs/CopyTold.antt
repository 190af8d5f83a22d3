-- The facts that the copy of the root relies on after an answer.
use Rattle.std.proofs.Common.{◌≡◌, ⊎_elim, ℕ, ◌<◌, ◌==◌, eqb-true, Option, List, [], ◌∷◌, refl, sym, subst}
use Rattle.std.proofs.lemmas.Bool.{eqb-false}
use Rattle.papaya_words.specs.declared.refused.Refused.{Refused}
use Rattle.papaya_words.specs.declared.resize_mode.ResizeMode.{ResizeMode}
use Rattle.papaya_call.specs.declared.ask.Answer.TheVariants.{Word as Word_read, Exchanged}
use Rattle.papaya_call.specs.declared.ask.Answer.TheVariants.{Found as Found_instead, Yes, Size}
use Rattle.papaya_call.specs.declared.ask.Answer.TheVariants.{Made as Made_number, Ok as Ok_done}
use Rattle.papaya_call.specs.declared.ask.Answer.TheVariants.{Refused as Was_refused}
use Rattle.papaya_call.specs.declared.ask.At.{At}
use Rattle.papaya_call.specs.declared.copy_ask.CopyAsk.{CopyAsk}
use Rattle.papaya_call.specs.declared.copy_ask.CopyAsk.TheVariants.{Load, Exchange as Ask_exchange}
use Rattle.papaya_call.specs.declared.copy_ask.CopyAsk.TheVariants.{LoadHint, WriteHint, SizeOf}
use Rattle.papaya_call.specs.declared.copy_ask.CopyAsk.TheVariants.{HashOf, SamePair, Count}
use Rattle.papaya_call.specs.declared.copy_ask.CopyAsk.TheVariants.{MakeTable}
use Rattle.papaya_call.specs.declared.copy.copying.Aim.{Aim}
use Rattle.papaya_call.specs.declared.copy.copying.Aim.TheVariants as aims
use Rattle.papaya_call.specs.declared.copy.copying.Copying.{Copying}
use Rattle.papaya_call.specs.Copying.{at_hash, at_made, at_size, copying_ask, copying_follows, copying_kind}
use Rattle.papaya_call.specs.declared.chain.ask.Answer.{Answer}
use Rattle.papaya_call.specs.declared.chain.ask.Answer.TheVariants as answers
use Rattle.papaya_call.specs.ChainMachine.{copying_after}
use Rattle.papaya_words_law.specs.Allows.{AllAllowed, Allows}
use Rattle.papaya_words_law.specs.Code.{Coding, IsHashed}
use Rattle.papaya_words_law.specs.Exchange.{Setting, State, Exchange, run}
use Rattle.papaya_words_law.specs.Invariant.{IsKeeping}
use Rattle.papaya_call_law.specs.Copier.{AreThere, HasWords, IsCopyAsked, IsStillAimed}
use Rattle.papaya_call_law.specs.Copier.{ReliesCopied, ReliesCopying, aim_of, last_after}
use Rattle.papaya_call_law.specs.Copier.{link_in_copying, told_last}
use Rattle.papaya_call_law.specs.Relies.{IsCutAs, IsModeOf}
use Rattle.papaya_call_law.specs.TrueAnswers.{word_of}
use Rattle.papaya_call_law.proofs.CopierCopies.{copying_compared, copying_counted}
use Rattle.papaya_call_law.proofs.CopierCopies.{copying_exchanged, copying_found, copying_hashed}
use Rattle.papaya_call_law.proofs.CopierCopies.{copying_hinted, copying_loaded, copying_made}
use Rattle.papaya_call_law.proofs.CopierCopies.{copying_noted, copying_refused, copying_sized}
use Rattle.papaya_call_law.proofs.CopierCopies.{copying_there}
use Rattle.papaya_call_law.proofs.CopierExchange.{asked_allowed}
use Rattle.papaya_call_law.proofs.ReliesLearn.{by_test}
use Rattle.papaya_call_law.specs.ChainAnswers.{IsTrueOfCopy, LoadedPairs, told_of}

-- it continues to copy for the same purpose
same_still : (aim aim' : Aim) → aim' ≡ aim → IsStillAimed aim aim'
same_still (aims.All met) aim' e = (met, e)
same_still (aims.Search table) aim' e = e
same_still (aims.Settle slot) aim' e = e
same_still aims.Chunk aim' e = e

module _ {K P : Type 0} (g : Setting K P) (c : Coding K P) (hashed : IsHashed g c) (s : State P) (m : K → Option P) (keeps : IsKeeping g s m)
    (mode : ResizeMode) (moded : IsModeOf mode g.blocking) (cut : IsCutAs mode g.chunk_of) (initial number : ℕ) (loaded : LoadedPairs P) where
  -- the pair last loaded, and the one that is moved
  abbrev last : Option P
  last = loaded.call.last

  abbrev kept : Option P
  kept = loaded.kept

  -- the exchange was allowed, and the copy relies on facts that hold in the state after the answer
  abbrev pub HasCopied : Copying → Answer → List (Exchange P) → LoadedPairs P → Type 0
  HasCopied copying answer es loaded' = AllAllowed g s es
      × ReliesCopied g c (run es s) loaded'.call.last loaded'.kept (aim_of copying) (copying_after copying mode initial number answer)

  -- by an equal answer
  answered : (copying : Copying) (answer answer' : Answer) (es es' : List (Exchange P)) (loaded' loaded'' : LoadedPairs P) → answer ≡ answer'
      → es ≡ es' → loaded' ≡ loaded'' → HasCopied copying answer' es' loaded'' → HasCopied copying answer es loaded'
  answered copying answer answer' es es' loaded' loaded'' a e h r =
      subst (λ y. HasCopied copying y es loaded') (sym a)
      (subst (λ y. HasCopied copying answer' y loaded') (sym e) (subst (λ y. HasCopied copying answer' es' y) (sym h) r))

  -- if nothing was exchanged
  quiet : (copying : Copying) (answer answer' : Answer) (es : List (Exchange P)) (loaded' loaded'' : LoadedPairs P) → answer ≡ answer' → es ≡ []
      → loaded' ≡ loaded''
      → ReliesCopied g c s loaded''.call.last loaded''.kept (aim_of copying) (copying_after copying mode initial number answer')
      → HasCopied copying answer es loaded'
  quiet copying answer answer' es loaded' loaded'' a e h r = answered copying answer answer' es [] loaded' loaded'' a e h (tt, r)

  module _ (copying : Copying) (r : ReliesCopying g c s last kept copying) where
    -- the words that it names are there
    there : (ask : CopyAsk) → copying_ask copying ≡ ask → AreThere g c s last kept ask
    there ask is = subst (AreThere g c s last kept) is (copying_there g c hashed s m keeps last kept copying r)

    -- a word was exchanged
    put_there : HasWords g (link_in_copying copying) → (at : At) (old new : ℕ) → copying_ask copying ≡ Ask_exchange at old new
        → word_of g c s at ≡ old → (e : Exchange P) → IsCopyAsked c (copying_kind copying) at new s kept e
        → HasCopied copying (answers.Call Exchanged) (e ∷ []) (told_of (last_after e last) loaded)
    put_there words at old new is stands e asked =
        let allows : Allows g s e = asked_allowed g c hashed s m keeps last kept copying r words at old new is stands e asked in
        ((allows, tt), copying_exchanged g c hashed s m keeps mode moded last kept e allows copying r at old new is stands asked)

    -- after each answer
    learns_of : (answer : Answer) → (answer ≡ answers.Call Exchanged → HasWords g (link_in_copying copying))
        → (es : List (Exchange P)) (loaded' : LoadedPairs P) (ask : CopyAsk) → copying_ask copying ≡ ask
        → IsTrueOfCopy g c s (copying_kind copying) (copying_follows copying) loaded ask answer es loaded' → HasCopied copying answer es loaded'
    learns_of answer words es loaded' (Load at) is h =
        quiet copying answer (answers.Call (Word_read (word_of g c s at))) es loaded' (told_of (told_last s at last) loaded) h.0 h.1 h.2
        (copying_loaded g c hashed s m keeps mode moded last kept copying r at is)
    learns_of answer words es loaded' (Ask_exchange at old new) is h =
        by_test (word_of g c s at == old)
        ((answer ≡ answers.Call Exchanged) × ((e : Exchange P) × IsCopyAsked c (copying_kind copying) at new s kept e × (es ≡ e ∷ [])
        × (loaded' ≡ told_of (last_after e last) loaded)))
        ((answer ≡ answers.Call (Found_instead (word_of g c s at))) × (es ≡ []) × (loaded' ≡ told_of (told_last s at last) loaded))
        (HasCopied copying answer es loaded') h
        (λ stands (a, (e, asked, one, h')).
        answered copying answer (answers.Call Exchanged) es (e ∷ []) loaded' (told_of (last_after e last) loaded) a one h'
        (put_there (words a) at old new is (eqb-true (word_of g c s at) old stands) e asked))
        (λ other (a, none, h').
        quiet copying answer (answers.Call (Found_instead (word_of g c s at))) es loaded' (told_of (told_last s at last) loaded) a none h'
        (copying_found g c hashed s m keeps mode moded last kept copying r at old new is (eqb-false (word_of g c s at) old other)))
    learns_of answer words es loaded' (LoadHint t x) is h =
        let hint : ℕ = h.0.0 in
        quiet copying answer (answers.Call (Word_read hint)) es loaded' loaded h.0.2 h.1.0 h.1.1
        (copying_hinted g c hashed s m keeps mode moded last kept copying r t x is hint h.0.1)
    learns_of answer words es loaded' (WriteHint t x n) is h =
        quiet copying answer (answers.Call Ok_done) es loaded' loaded h.0 h.1.0 h.1.1
        (copying_noted g c hashed s m keeps mode moded last kept copying r t x n is).1
    learns_of answer words es loaded' (SizeOf t) is h =
        let size = h.0 in
        let sized = copying_sized g c hashed s m keeps mode moded last kept cut number copying r t size.0 is size.1 in
        quiet copying answer (answers.Call (Size (g.size t) size.0)) es loaded' loaded size.2 h.1.0 h.1.1
        (same_still (aim_of copying) (aim_of (at_size copying mode number (g.size t) size.0)) sized.0, sized.1)
    learns_of answer words es loaded' (HashOf n) is h =
        let (p, told, number) = there (HashOf n) is in
        let hashed_as = copying_hashed g c hashed s m keeps mode moded last kept copying r n is p told in
        quiet copying answer (answers.Hash (c.hash (g.key p))) es loaded' (record loaded { kept = last }) (h.0 p told number) h.1 h.2
        (same_still (aim_of copying) (aim_of (at_hash copying (c.hash (g.key p)))) hashed_as.0, hashed_as.1)
    learns_of answer words es loaded' (SamePair i n) is h =
        let (o, q, carried, told, first, second) = there (SamePair i n) is in
        quiet copying answer (answers.Call (Yes (g.same (g.key o) (g.key q)))) es loaded' loaded (h.0 o q carried first told second) h.1.0 h.1.1
        (copying_compared g c hashed s m keeps mode moded last kept copying r i n is o q carried told)
    learns_of answer words es loaded' Count is h =
        quiet copying answer (answers.Count h.0.0) es loaded' loaded h.0.1 h.1.0 h.1.1
        (copying_counted g c hashed s m keeps mode moded last kept cut copying r h.0.0 initial)
    learns_of answer words es loaded' (MakeTable slots limit chunks) is h =
        ⊎_elim
        (λ (u : (refused : Refused) × (answer ≡ answers.Call (Was_refused refused))).
        quiet copying answer (answers.Call (Was_refused u.0)) es loaded' loaded u.1 h.1.0 h.1.1
        (copying_refused g c hashed s m keeps mode moded last kept copying r u.0))
        (λ (n : (n : ℕ) × (copying_follows copying < n) × (answer ≡ answers.Call (Made_number n))).
        let made = copying_made g c hashed s m keeps mode moded last kept copying r n.0 n.1 in
        quiet copying answer (answers.Call (Made_number n.0)) es loaded' loaded n.2 h.1.0 h.1.1
        (same_still (aim_of copying) (aim_of (at_made copying n.0)) made.0, made.1))
        h.0

    pub copying_learns : (answer : Answer) → (answer ≡ answers.Call Exchanged → HasWords g (link_in_copying copying))
        → (es : List (Exchange P)) (loaded' : LoadedPairs P)
        → IsTrueOfCopy g c s (copying_kind copying) (copying_follows copying) loaded (copying_ask copying) answer es loaded' → HasCopied copying answer es loaded'
    copying_learns answer words es loaded' h = learns_of answer words es loaded' (copying_ask copying) refl h
