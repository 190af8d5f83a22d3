-- The facts that the making of the next table relies on after an answer.
use Rattle.std.proofs.Common.{◌≡◌, ⊎_elim, ℕ, ◌<◌, ◌≤◌, ◌==◌, eqb-true, Option, Some, List, [], ◌∷◌, ◌++◌, append_assoc, refl, sym, ap, ◌∙◌, subst}
use Rattle.std.proofs.lemmas.Bool.{eqb-false}
use Rattle.papaya_words.specs.declared.refused.Refused.{Refused}
use Rattle.papaya_words.specs.declared.resize_mode.ResizeMode.{ResizeMode}
use Rattle.papaya_call.specs.declared.ask.Answer.TheVariants.{Exchanged, Found as Found_instead, Size, Made as Made_number, Refused as Was_refused}
use Rattle.papaya_call.specs.declared.ask.At.TheVariants.{Next}
use Rattle.papaya_call.specs.declared.ask.StepKind.TheVariants as kinds
use Rattle.papaya_call.specs.declared.copy.link.Link.{Link}
use Rattle.papaya_call.specs.declared.copy.link.Link.TheVariants as links
use Rattle.papaya_call.specs.Link.{follows, link_ask, link_kind}
use Rattle.papaya_call.specs.declared.chain.ask.Answer.{Answer}
use Rattle.papaya_call.specs.declared.chain.ask.Answer.TheVariants as answers
use Rattle.papaya_call.specs.ChainMachine.{link_after}
use Rattle.papaya_words_law.specs.Allows.{AllAllowed}
use Rattle.papaya_words_law.specs.Code.{Coding, IsHashed}
use Rattle.papaya_words_law.specs.Exchange.{Setting, State, Exchange, Link as Link_to, run, start}
use Rattle.papaya_words_law.specs.Invariant.{IsKeeping}
use Rattle.papaya_words_law.specs.Meaning.{map_left}
use Rattle.papaya_words_law.proofs.Moments.{allowed_append, run-append}
use Rattle.papaya_words_law.proofs.OneMap.{keeping}
use Rattle.papaya_call_law.specs.Copier.{HasWords, IsCopyAsked, ReliesLink, ReliesLinked, last_after, told_last}
use Rattle.papaya_call_law.specs.Relies.{IsCutAs}
use Rattle.papaya_call_law.proofs.CopierLinks.{link_counted, link_exchanged, link_found, link_made, link_refused, link_sized, sized_follows}
use Rattle.papaya_call_law.proofs.CopierGuarantee.{links_on}
use Rattle.papaya_call_law.proofs.ReliesLearn.{by_test}
use Rattle.papaya_call_law.specs.ChainAnswers.{IsTrueOfCopy, LoadedPairs, told_of}

module _ {K P : Type 0} (g : Setting K P) (c : Coding K P) (s : State P) (m : K → Option P) (keeps : IsKeeping g s m) (mode : ResizeMode)
    (cut : IsCutAs mode g.chunk_of) (initial : ℕ) (loaded : LoadedPairs P) where
  -- the exchange was allowed, and it relies on facts that hold in the state after the answer
  abbrev pub HasLinked : Link → Answer → List (Exchange P) → LoadedPairs P → Type 0
  HasLinked link answer es loaded' = AllAllowed g s es
      × ReliesLinked g c (run es s) loaded'.call.last loaded'.kept (follows link) (link_after link mode initial answer)

  -- by an equal answer
  answered : (link : Link) (answer answer' : Answer) (es es' : List (Exchange P)) (loaded' loaded'' : LoadedPairs P) → answer ≡ answer' → es ≡ es'
      → loaded' ≡ loaded'' → HasLinked link answer' es' loaded'' → HasLinked link answer es loaded'
  answered link answer answer' es es' loaded' loaded'' a e h r =
      subst (λ y. HasLinked link y es loaded') (sym a)
      (subst (λ y. HasLinked link answer' y loaded') (sym e) (subst (λ y. HasLinked link answer' es' y) (sym h) r))

  -- if nothing was exchanged
  quiet : (link : Link) (answer answer' : Answer) (es : List (Exchange P)) (loaded' loaded'' : LoadedPairs P) → answer ≡ answer' → es ≡ [] → loaded' ≡ loaded''
      → ReliesLinked g c s loaded''.call.last loaded''.kept (follows link) (link_after link mode initial answer') → HasLinked link answer es loaded'
  quiet link answer answer' es loaded' loaded'' a e h r = answered link answer answer' es [] loaded' loaded'' a e h (tt, r)

  -- the next word, which was to be 0
  linked_there : (behind table chunks : ℕ) → ReliesLink g c s (links.Linking behind table chunks) → chunks ≤ g.chunks table → s.next behind ≡ 0
      → (e : Exchange P) → e ≡ Link_to behind table
      → HasLinked (links.Linking behind table chunks) (answers.Call Exchanged) (e ∷ []) (told_of (last_after e loaded.call.last) loaded)
  linked_there behind table chunks r words none e is = (
    subst (λ y. AllAllowed g s (y ∷ [])) (sym is) (links_on g c s m keeps behind table chunks r words none, tt),
    link_exchanged g c s loaded.call.last loaded.kept (links.Linking behind table chunks) r (Next behind) 0 table refl e is,
  )

  -- after each answer
  pub link_learns : (link : Link) → ReliesLink g c s link → (answer : Answer) → (answer ≡ answers.Call Exchanged → HasWords g (Some link))
      → (es : List (Exchange P)) (loaded' : LoadedPairs P)
      → IsTrueOfCopy g c s (link_kind link) (follows link) loaded (link_ask link) answer es loaded' → HasLinked link answer es loaded'
  link_learns (links.Sizing behind copied unfit) r answer words es loaded' h =
      quiet (links.Sizing behind copied unfit) answer (answers.Call (Size (g.size behind) h.0.0)) es loaded' loaded h.0.2 h.1.0 h.1.1 (
        sized_follows g c s loaded.call.last loaded.kept (links.Sizing behind copied unfit) (g.size behind),
        link_sized g c s loaded.call.last
            loaded.kept (links.Sizing behind copied unfit) r behind refl,
      )
  link_learns (links.Measuring behind copied unfit len) r answer words es loaded' h =
      quiet (links.Measuring behind copied unfit len) answer (answers.Call (Size (g.size copied) h.0.0)) es loaded' loaded h.0.2 h.1.0 h.1.1
      (refl, link_sized g c s loaded.call.last loaded.kept (links.Measuring behind copied unfit len) r copied refl)
  link_learns (links.Counting behind unfit len copied) r answer words es loaded' h =
      quiet (links.Counting behind unfit len copied) answer (answers.Count h.0.0) es loaded' loaded h.0.1 h.1.0 h.1.1
      (link_counted g c s loaded.call.last loaded.kept mode cut (links.Counting behind unfit len copied) r h.0.0 initial)
  link_learns (links.Making behind len limit chunks) r answer words es loaded' h =
      ⊎_elim
      (λ (u : (refused : Refused) × (answer ≡ answers.Call (Was_refused refused))).
      quiet (links.Making behind len limit chunks) answer (answers.Call (Was_refused u.0)) es loaded' loaded u.1 h.1.0 h.1.1
      (link_refused g c s loaded.call.last loaded.kept (links.Making behind len limit chunks) r u.0))
      (λ (n : (n : ℕ) × (behind < n) × (answer ≡ answers.Call (Made_number n))).
      quiet (links.Making behind len limit chunks) answer (answers.Call (Made_number n.0)) es loaded' loaded n.2 h.1.0 h.1.1
      (refl, link_made g c s loaded.call.last loaded.kept (links.Making behind len limit chunks) r n.0 n.1))
      h.0
  link_learns (links.Linking behind table chunks) r answer words es loaded' h =
      by_test (s.next behind == 0)
      ((answer ≡ answers.Call Exchanged) × ((e : Exchange P) × IsCopyAsked c (Some kinds.Link) (Next behind) table s loaded.kept e × (es ≡ e ∷ [])
      × (loaded' ≡ told_of (last_after e loaded.call.last) loaded)))
      ((answer ≡ answers.Call (Found_instead (s.next behind))) × (es ≡ []) × (loaded' ≡ told_of (told_last s (Next behind) loaded.call.last) loaded))
      (HasLinked (links.Linking behind table chunks) answer es loaded') h
      (λ none (a, (e, asked, is, h')).
      answered (links.Linking behind table chunks) answer (answers.Call Exchanged) es (e ∷ []) loaded' (told_of (last_after e loaded.call.last) loaded) a is h'
      (linked_there behind table chunks r (words a) (eqb-true (s.next behind) 0 none) e asked))
      (λ some (a, is, h').
      quiet (links.Linking behind table chunks) answer (answers.Call (Found_instead (s.next behind))) es loaded' loaded a is h'
      (link_found g c s loaded.call.last loaded.kept (links.Linking behind table chunks) r (Next behind) 0 table refl (eqb-false (s.next behind) 0 some)))

module _ {K P : Type 0} (g : Setting K P) (c : Coding K P) (hashed : IsHashed g c) (begun since : List (Exchange P))
    (may : AllAllowed g start (begun ++ since)) (mode : ResizeMode) (cut : IsCutAs mode g.chunk_of) (initial : ℕ) (loaded : LoadedPairs P) where
  -- the same after all exchanges
  pub link_learns_all : (link : Link) → ReliesLink g c (run (begun ++ since) start) link → (answer : Answer)
      → (answer ≡ answers.Call Exchanged → HasWords g (Some link)) → (es : List (Exchange P)) (loaded' : LoadedPairs P)
      → IsTrueOfCopy g c (run (begun ++ since) start) (link_kind link) (follows link) loaded (link_ask link) answer es loaded'
      → AllAllowed g start (begun ++ (since ++ es))
      × ReliesLinked g c (run (begun ++ (since ++ es)) start) loaded'.call.last loaded'.kept (follows link) (link_after link mode initial answer)
  link_learns_all link r answer words es loaded' h =
      let out = link_learns g c (run (begun ++ since) start) (map_left g (begun ++ since)) (keeping g hashed.lawful (begun ++ since) may) mode cut
      initial loaded link r answer words es loaded' h in
      let reaches : run es (run (begun ++ since) start) ≡ run (begun ++ (since ++ es)) start = sym (run-append (begun ++ since) es start)
      ∙ ap (λ l. run l start) (append_assoc begun since es) in (
        subst (AllAllowed g start) (append_assoc begun since es) (allowed_append g (begun ++ since) es start may out.0),
        subst (λ s. ReliesLinked g c s loaded'.call.last loaded'.kept (follows link) (link_after link mode initial answer)) reaches out.1,
      )
