-- One further key: the numbers of the words are unchanged.
use Rattle.std.proofs.Common.{◌≡◌, ℕ, Bool, refl}
use Rattle.papaya_call.specs.declared.ask.At.{At}
use Rattle.papaya_call.specs.declared.ask.At.TheVariants.{Root, Next, Aborted, Done, Slot, Made}
use Rattle.papaya_words_law.specs.Exchange.{Setting, State}
use Rattle.papaya_words_law.specs.Code.{Coding}
use Rattle.papaya_words_law.specs.Further.{with_key, coding_with}
use Rattle.papaya_words_law.proofs.Further.{key_code}
use Rattle.papaya_call_law.specs.TrueAnswers.{word_of}

module _ {K P : Type 0} (g : Setting K P) (matches : K → Bool) (hash : ℕ) where
  -- the word at a place has the same number
  pub key_word : (c : Coding K P) (s : State P) (at : At) → word_of (with_key g matches hash) (coding_with c hash) s at ≡ word_of g c s at
  key_word c s Root = refl
  key_word c s (Next t) = refl
  key_word c s (Aborted t) = refl
  key_word c s (Done t chunk) = refl
  key_word c s Made = refl
  key_word c s (Slot t x) = key_code g matches hash c (s.slot t x)
