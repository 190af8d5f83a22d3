-- If two pairs have the same key and the same number, either may be put in instead of the other: both are allowed, and write the same word.
use Rattle.std.proofs.Common.{◌≡◌, ℕ, ◌==◌, ◌&&◌, Bool, true, false, cond, refl, sym, ◌∙◌, subst}
use Rattle.papaya_words.specs.Word.{live_word}
use Rattle.papaya_call.specs.declared.ask.At.{At}
use Rattle.papaya_call.specs.declared.ask.At.TheVariants.{Root, Next, Aborted, Done, Slot, Made}
use Rattle.papaya_words_law.specs.Allows.{Allows}
use Rattle.papaya_words_law.specs.Exchange.{Setting, State, Word, Live, Claim, Replace, slot_put}
use Rattle.papaya_words_law.specs.Code.{Coding, code}
use Rattle.papaya_words_law.specs.View.{IsNextPlace, IsReached, beyond}
use Rattle.papaya_call_law.specs.TrueAnswers.{IsWritten, word_of}

module _ {K P : Type 0} (g : Setting K P) (c : Coding K P) (p q : P) (key : g.key p ≡ g.key q) (number : c.number p ≡ c.number q) where
  -- their words are the same
  same_word : code g c (Live p) ≡ code g c (Live q)
  same_word = λ i. live_word (number i)

  -- whether it was put there or not
  same_cond : (b : Bool) (w : Word P) → code g c (cond b (Live p) w) ≡ code g c (cond b (Live q) w)
  same_cond true w = same_word
  same_cond false w = refl

  -- so all words are the same with the one put in and with the other
  same_words : (s : State P) (t x : ℕ) (at : At) → word_of g c (slot_put s t x (Live p)) at ≡ word_of g c (slot_put s t x (Live q)) at
  same_words s t x Root = refl
  same_words s t x (Next u) = refl
  same_words s t x (Aborted u) = refl
  same_words s t x (Done u chunk) = refl
  same_words s t x (Slot u y) = same_cond ((u == t) && (y == x)) (s.slot u y)
  same_words s t x Made = refl

  pub written_instead : (s : State P) (t x : ℕ) (at : At) (new : ℕ) → IsWritten g c s at new (slot_put s t x (Live p))
      → IsWritten g c s at new (slot_put s t x (Live q))
  written_instead s t x at new w = record {
    here = sym (same_words s t x at) ∙ w.here;
    others = λ other differs. sym (same_words s t x other) ∙ w.others other differs;
  }

  pub claimed_instead : (s : State P) (t x : ℕ) → Allows g s (Claim t x p) → Allows g s (Claim t x q)
  claimed_instead s t x may = record {
    empty = may.empty;
    reached = subst (λ k. IsReached g s k t) key may.reached;
    place = subst (λ k. IsNextPlace g s k beyond t x) key may.place;
  }

  pub replaced_instead : (s : State P) (t x : ℕ) (r : P) → Allows g s (Replace t x r p) → Allows g s (Replace t x r q)
  replaced_instead s t x r may = record {
    live = may.live;
    reached = may.reached;
    same = subst (λ k. g.same (g.key r) k ≡ true) key may.same;
    kept = sym key ∙ may.kept;
  }
