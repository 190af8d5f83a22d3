-- The facts on which a call that resizes the map relies, in the form in which they are cited here.
use Rattle.std.proofs.Common.{◌≡◌, ℕ, List, Option, Some, sym, ◌∙◌, subst}
use Rattle.papaya_words.specs.declared.refused.Refused.{Refused}
use Rattle.papaya_words.specs.declared.resize_mode.ResizeMode.{ResizeMode}
use Rattle.papaya_call.specs.declared.ask.At.{At}
use Rattle.papaya_call.specs.declared.copy_ask.CopyAsk.{CopyAsk}
use Rattle.papaya_call.specs.declared.call.Reply.TheVariants.{Refused as Reply_refused}
use Rattle.papaya_call.specs.declared.copy_ask.CopyAsk.TheVariants.{Exchange as Copy_exchange, WriteHint}
use Rattle.papaya_call.specs.declared.chain.ask.Answer.{Answer}
use Rattle.papaya_call.specs.declared.chain.resizer.Resize.{Resize}
use Rattle.papaya_call.specs.declared.chain.resizer.Resizer.{Resizer}
use Rattle.papaya_call.specs.Resizer.{after, ask_of, begun, reply_of}
use Rattle.papaya_words_law.specs.Allows.{AllAllowed, Allows}
use Rattle.papaya_words_law.specs.Class.{IsOn}
use Rattle.papaya_words_law.specs.Code.{Coding, IsHashed}
use Rattle.papaya_words_law.specs.Exchange.{Setting, State, Exchange, after as state_after, run}
use Rattle.papaya_words_law.specs.Grows.{Agrees}
use Rattle.papaya_words_law.specs.Invariant.{IsKeeping}
use Rattle.papaya_call_law.specs.Copier.{AreThere, HasWords}
use Rattle.papaya_call_law.specs.Relies.{IsCutAs, IsModeOf}
use Rattle.papaya_call_law.specs.TrueAnswers.{IsWritten, word_of}
use Rattle.papaya_call_law.specs.Resizers.{IsResizeCause, IsStageAsked, IsTrueOfStage, ReliesResizer, link_of}
use Rattle.papaya_call_law.specs.ChainAnswers.{LoadedPairs}
use Rattle.papaya_call_law.proofs.ResizerRefusals.{resizer_why}
use Rattle.papaya_call_law.proofs.ResizerRelies.{stage_begins, stage_carries, stage_learns, stage_may, stage_may_hint, stage_stable, stage_there}
use Rattle.papaya_words_law.specs.Hints.{IsHint}

module _ {K P : Type 0} where
  pub resizer_begins : (g : Setting K P) (c : Coding K P) (s : State P) (loaded : LoadedPairs P) (resize : Resize) (mode : ResizeMode)
      (initial number : ℕ) → IsModeOf mode g.blocking → IsCutAs mode g.chunk_of → ReliesResizer g c s (begun resize mode initial number) loaded
  resizer_begins g c s loaded resize mode initial number moded cut = record { mode = moded; cut = cut; stage = stage_begins g c s loaded resize }

  pub resizer_stays : (g : Setting K P) (c : Coding K P) → IsHashed g c → (s : State P) (m : K → Option P) → IsKeeping g s m
      → (es : List (Exchange P)) → AllAllowed g s es → (resizer : Resizer) (loaded : LoadedPairs P) → ReliesResizer g c s resizer loaded
      → ReliesResizer g c (run es s) resizer loaded
  resizer_stays g c hashed s m keeps es may resizer loaded
      r = record { mode = r.mode; cut = r.cut; stage = stage_stable g c hashed s m keeps es may loaded resizer.state r.stage }

  pub resizer_carries : (g g' : Setting K P) (c : Coding K P) (s : State P) (m : K → Option P) → IsKeeping g s m → Agrees (IsOn s.first s.next) g g'
      → (resizer : Resizer) (loaded : LoadedPairs P) → ReliesResizer g c s resizer loaded → ReliesResizer g' c s resizer loaded
  resizer_carries g g' c s m keeps agrees resizer loaded
      r = record {
        mode = subst (IsModeOf resizer.mode) (sym agrees.blocking) r.mode;
        cut = λ x. agrees.chunk_of x
            ∙ r.cut x;
        stage = stage_carries g c g' s m keeps agrees loaded resizer.state r.stage;
      }

  pub resizer_names : (g : Setting K P) (c : Coding K P) → IsHashed g c → (s : State P) (m : K → Option P) → IsKeeping g s m
      → (resizer : Resizer) (loaded : LoadedPairs P) → ReliesResizer g c s resizer loaded → (ask : CopyAsk) → ask_of resizer ≡ Some ask
      → AreThere g c s loaded.call.last loaded.kept ask
  resizer_names g c hashed s m keeps resizer loaded r ask e = stage_there g c hashed s m keeps loaded resizer.state r.stage ask e

  pub resizer_may : (g : Setting K P) (c : Coding K P) → IsHashed g c → (s : State P) (m : K → Option P) → IsKeeping g s m
      → (resizer : Resizer) (loaded : LoadedPairs P) → ReliesResizer g c s resizer loaded → HasWords g (link_of resizer.state) → (at : At) (old new : ℕ)
      → ask_of resizer ≡ Some (Copy_exchange at old new) → word_of g c s at ≡ old
      → (e : Exchange P) × IsStageAsked g c s resizer.state at new loaded e × Allows g s e × IsWritten g c s at new (state_after s e)
  resizer_may g c hashed s m keeps resizer loaded r words at old new e stands = stage_may g c hashed s m keeps loaded resizer.state r.stage words at
      old new e stands

  pub resizer_may_hint : (g : Setting K P) (c : Coding K P) → IsHashed g c → (s : State P) (m : K → Option P) → IsKeeping g s m
      → (resizer : Resizer) (loaded : LoadedPairs P) → ReliesResizer g c s resizer loaded → (t x n : ℕ) → ask_of resizer ≡ Some (WriteHint t x n)
      → IsHint g c s t x n
  resizer_may_hint g c hashed s m keeps resizer loaded r t x n e = stage_may_hint g c hashed s m keeps loaded resizer.mode r.mode resizer.state r.stage t x n e

  pub resizer_learns : (g : Setting K P) (c : Coding K P) → IsHashed g c → (s : State P) (m : K → Option P) → IsKeeping g s m
      → (resizer : Resizer) (loaded : LoadedPairs P) → ReliesResizer g c s resizer loaded → HasWords g (link_of resizer.state)
      → (answer : Answer) (es : List (Exchange P)) (loaded' : LoadedPairs P) → IsTrueOfStage g c s resizer.state loaded answer es loaded'
      → AllAllowed g s es × ReliesResizer g c (run es s) (after resizer answer) loaded'
  resizer_learns g c hashed s m keeps resizer loaded r words answer es loaded' told =
      let out = stage_learns g c hashed s m keeps resizer.resize resizer.mode resizer.initial resizer.number loaded r.mode r.cut resizer.state r.stage
      answer (λ _. words) es loaded' told in
      (out.0, record { mode = r.mode; cut = r.cut; stage = out.1 })

  pub resizer_refused : (g : Setting K P) (c : Coding K P) (s : State P) (resizer : Resizer) (loaded : LoadedPairs P)
      → ReliesResizer g c s resizer loaded → (answer : Answer) (es : List (Exchange P)) (loaded' : LoadedPairs P)
      → IsTrueOfStage g c s resizer.state loaded answer es loaded' → (refused : Refused) → reply_of (after resizer answer) ≡ Some (Reply_refused refused)
      → IsResizeCause resizer answer refused
  resizer_refused g c s resizer loaded r answer es loaded' told refused ends = resizer_why g c s resizer loaded answer es loaded' told refused ends
