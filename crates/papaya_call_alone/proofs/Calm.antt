-- A call that makes a pair loads no next table: each answer brings it nearer its end, as if no
-- table had a next one.
use Rattle.std.proofs.Common.{◌≡◌, ℕ, ◌+◌, ◌<◌, ◌==◌, refl, sym, ◌∙◌, subst}
use Rattle.std.specs.Prelude.{MatchBool}
use Rattle.papaya_words.specs.Word.{live_word}
use Rattle.papaya_call.specs.declared.ask.At.{At}
use Rattle.papaya_call.specs.declared.ask.At.TheVariants.{Root, Next, Aborted, Done, Slot, Made as Made_word}
use Rattle.papaya_call.specs.declared.ask.Ask.{Ask}
use Rattle.papaya_call.specs.declared.ask.Ask.TheVariants.{Exchange}
use Rattle.papaya_call.specs.declared.ask.Answer.{Answer}
use Rattle.papaya_call.specs.declared.ask.Answer.TheVariants.{Exchanged, Found as Found_instead}
use Rattle.papaya_call.specs.declared.call.Task.{Task}
use Rattle.papaya_call.specs.declared.compute.Gap.{Gap}
use Rattle.papaya_call.specs.declared.compute.Gap.TheVariants as gaps
use Rattle.papaya_call.specs.declared.compute.Purpose.{Purpose}
use Rattle.papaya_call.specs.declared.compute.Purpose.TheVariants.{Fill, Replace, Again}
use Rattle.papaya_call.specs.declared.made.Made.{Made}
use Rattle.papaya_call.specs.declared.made.Number.{Number}
use Rattle.papaya_call.specs.declared.made.Number.TheVariants.{Wanted, Free, Taken}
use Rattle.papaya_call.specs.declared.machine.Machine.{Machine}
use Rattle.papaya_call.specs.declared.machine.State.{State}
use Rattle.papaya_call.specs.declared.machine.State.TheVariants.{Writing, Pairing}
use Rattle.papaya_call.specs.declared.write.Write.{Write}
use Rattle.papaya_call.specs.Compute.{in_place_of}
use Rattle.papaya_call.specs.Machine.{after, asks}
use Rattle.papaya_call_law.specs.Alone.{IsGapRead, IsNumberRead, IsPrompt, IsPurposeRead, IsPut, IsRead, IsSame, left, left_in}
use Rattle.papaya_call_law.proofs.AloneSteps.{machine_nears}
use Rattle.papaya_call_law.proofs.Makings.{HoldsOfPairAsks, pair_holds, write_holds}
use Rattle.papaya_call_alone.proofs.CopyPrompts.{by_each}

-- the words, but that no table has a next one
abbrev calm : (At → ℕ) → At → ℕ
calm words (Next t) = 0
calm words at = words at

-- the words of numbers and slots are the same
abbrev IsShown : At → Type 0
IsShown (Slot t x) = Unit {0}
IsShown Made_word = Unit {0}
IsShown _ = ⊥

shown : (words : At → ℕ) (at : At) → IsShown at → calm words at ≡ words at
shown words (Slot t x) h = refl
shown words Made_word h = refl
shown words at h = absurd h

module _ (words words' : At → ℕ) where
  calm_same : IsSame words words' → IsSame (calm words) (calm words')
  calm_same same Root = same Root
  calm_same same (Next t) = refl
  calm_same same (Aborted t) = same (Aborted t)
  calm_same same (Done t chunk) = same (Done t chunk)
  calm_same same (Slot t x) = same (Slot t x)
  calm_same same Made_word = same Made_word

  calm_others : (at : At) → ((other : At) → (other ≡ at → ⊥) → words' other ≡ words other) → (other : At) → (other ≡ at → ⊥)
      → calm words' other ≡ calm words other
  calm_others at same Root else = same Root else
  calm_others at same (Next t) else = refl
  calm_others at same (Aborted t) else = same (Aborted t) else
  calm_others at same (Done t chunk) else = same (Done t chunk) else
  calm_others at same (Slot t x) else = same (Slot t x) else
  calm_others at same Made_word else = same Made_word else

  calm_put : (at : At) (new : ℕ) → IsShown at → IsPut words at new words' → IsPut (calm words) at new (calm words')
  calm_put at new h put = record { here = shown words' at h ∙ put.here; others = calm_others at put.others }

  -- an answer is prompt for those words too
  module _ (task : Task) (answer : Answer) where
    abbrev IsCalm : Ask → Type 0
    IsCalm ask = IsPrompt task words ask answer words' → IsPrompt task (calm words) ask answer (calm words')

    exchange_calm : (at : At) (old new : ℕ) → IsShown at → IsCalm (Exchange at old new)
    exchange_calm at old new h told =
        subst (λ w. MatchBool (w == old) ((answer ≡ Exchanged) × IsPut (calm words) at new (calm words'))
        ((answer ≡ Found_instead w) × IsSame (calm words) (calm words'))) (sym (shown words at h))
        (by_each (words at == old) (λ _ done. (done.0, calm_put at new h done.1)) (λ _ lost. (lost.0, calm_same lost.1)) told)

    each_calm : HoldsOfPairAsks IsCalm
    each_calm = record {
      loads = λ told. (told.0, calm_same told.1);
      takes = λ count. exchange_calm Made_word count (count + 1) tt;
      key = λ told. (told.0, calm_same told.1);
      value = λ told. (told.0, calm_same told.1);
      pair = λ told. (told.0, calm_same told.1);
      pair_of = λ n told. (told.0, calm_same told.1);
    }

  module _ (m : Machine) (made : Made) (answer : Answer) where
    -- after this answer less is left
    abbrev Nears : State → Type 0
    Nears state = let m' : Machine = after (record m { made = made; state = state }) answer in left m' < left_in made state

    -- the words that were read are unchanged
    number_calm : (number : Number) → IsNumberRead words number → IsNumberRead (calm words) number
    number_calm Wanted read = read
    number_calm (Free count) read = read
    number_calm Taken read = read

    gap_calm : (gap : Gap) → IsGapRead words gap → IsGapRead (calm words) gap
    gap_calm gaps.NoRoot read = read
    gap_calm (gaps.At at) read = read
    gap_calm (gaps.After t) read = read

    purpose_calm : (purpose : Purpose) → IsPurposeRead words purpose → IsPurposeRead (calm words) purpose
    purpose_calm (Fill gap) read = gap_calm gap read
    purpose_calm (Replace write) read = read
    purpose_calm (Again write) read = read

    module _ (known : IsNumberRead words made.number) where
      nears : (state : State) → IsRead (calm words) state → IsCalm m.task answer (asks made m.hash state)
          → IsPrompt m.task words (asks made m.hash state) answer words' → Nears state
      nears state read calms told = machine_nears (calm words) (calm words') (record m { made = made; state = state }) answer
          (number_calm made.number known) read (λ t. refl) (calms told)

      -- to an insertion that writes
      pub writing_nearer : (write : Write) → IsRead words (Writing write) → IsPrompt m.task words (asks made m.hash (Writing write)) answer words'
          → Nears (Writing write)
      writing_nearer write read told = nears (Writing write) read
          (write_holds (IsCalm m.task answer) (each_calm m.task answer) write
          (λ n. exchange_calm m.task answer (Slot write.place.table write.place.probe.i) write.old (live_word n) tt) made) told

      -- and to a compute that makes its pair
      pub pairing_nearer : (purpose : Purpose) → IsRead words (Pairing purpose)
          → IsPrompt m.task words (asks made m.hash (Pairing purpose)) answer words' → Nears (Pairing purpose)
      pairing_nearer purpose read told = nears (Pairing purpose) (purpose_calm purpose read)
          (pair_holds (IsCalm m.task answer) (each_calm m.task answer) made (in_place_of purpose)) told
