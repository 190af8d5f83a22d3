-- A copy with no other caller beside it comes to an end.
use Rattle.std.proofs.Common.{◌≡◌, ◌⊎◌, ℕ, ◌<◌, Option, List}
use Rattle.papaya_words.specs.declared.resize_mode.ResizeMode.{ResizeMode}
use Rattle.papaya_call.specs.declared.copy.copying.Copying.{Copying}
use Rattle.papaya_call.specs.Copying.{copying_ask, copying_follows, copying_kind}
use Rattle.papaya_call.specs.declared.chain.ask.Answer.{Answer}
use Rattle.papaya_call.specs.ChainMachine.{copying_after}
use Rattle.papaya_words_law.specs.Code.{Coding, IsHashed}
use Rattle.papaya_words_law.specs.Exchange.{Setting, State, Exchange, run}
use Rattle.papaya_words_law.specs.Invariant.{IsKeeping}
use Rattle.papaya_call_law.specs.Copier.{HasWords, ReliesCopying, link_in_copying}
use Rattle.papaya_call_law.specs.TrueAnswers.{word_of}
use Rattle.papaya_call_law.proofs.CopierCopies.{copying_there}
use Rattle.papaya_call_law.proofs.CopierExchange.{copying_may}
use Rattle.papaya_call_law.specs.ChainAnswers.{IsTrueOfCopy, LoadedPairs}
use Rattle.papaya_call_alone.specs.Budget.{Budget, IsSpent, SpendsCopy}
use Rattle.papaya_call_alone.specs.Current.{IsCopiedRead, IsCopyingRead}
use Rattle.papaya_call_alone.specs.Measure.{left_of_copied, left_of_copying}
use Rattle.papaya_call_alone.specs.Prompt.{IsBounded, IsCopyPrompt}
use Rattle.papaya_call_alone.proofs.CopyEnds.{copying_ends}
use Rattle.papaya_call_alone.proofs.CopyPrompts.{told_prompt, words_bare}
use Rattle.papaya_call_alone.proofs.Telling.{copy_spends}

module _ {K P : Type 0} (g : Setting K P) (c : Coding K P) (hashed : IsHashed g c) (s : State P) (m : K → Option P) (keeps : IsKeeping g s m)
    (bounded : IsBounded g s) (mode : ResizeMode) (initial number : ℕ) (loaded : LoadedPairs P) (copying : Copying)
    (r : ReliesCopying g c s loaded.call.last loaded.kept copying) (made : HasWords g (link_in_copying copying))
    (read : IsCopyingRead mode (word_of g c s) copying) (answer : Answer) (es : List (Exchange P)) (loaded' : LoadedPairs P)
    (told : IsTrueOfCopy g c s (copying_kind copying) (copying_follows copying) loaded (copying_ask copying) answer es loaded') where
  -- an answer about the words is the one that they determine
  pub prompt : IsCopyPrompt (word_of g c s) (copying_ask copying) answer (word_of g c (run es s))
  prompt =
      told_prompt g c hashed s m keeps bounded loaded (copying_kind copying) (copying_follows copying) (copying_ask copying)
      (copying_there g c hashed s m keeps loaded.call.last loaded.kept copying r)
      (copying_may g c hashed s m keeps loaded.call.last loaded.kept copying r made) answer es loaded' told

  -- the budget is spent, or less is left
  pub copy_nears : (before later : Budget) → SpendsCopy (copying_ask copying) answer before later → IsSpent before later
      ⊎ ((later ≡ before) × (left_of_copied (copying_after copying mode initial number answer) < left_of_copying copying))
  copy_nears before later spends =
      copy_spends (word_of g c s) (word_of g c (run es s)) before later (copying_ask copying) answer prompt spends _ _
      (copying_ends mode initial number (word_of g c s) (word_of g c (run es s)) (words_bare g c (run es s)) copying answer read prompt).0

  -- the words that were read are unchanged
  pub copy_current : IsCopiedRead mode (word_of g c (run es s)) (copying_after copying mode initial number answer)
  copy_current = (copying_ends mode initial number (word_of g c s) (word_of g c (run es s)) (words_bare g c (run es s)) copying answer read prompt).1
