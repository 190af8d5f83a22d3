-- The setting of a log is lawful and finds keys by their hash, and that of a longer log agrees with it on the tables in the log.
use Rattle.std.proofs.Common.{◌≡◌, ℕ, ◌%◌, ◌^◌, Bool, true, Option, List, ◌++◌, refl, sym, ap, ◌∙◌, subst, arith}
use Rattle.std.specs.Cmp.{IsEquivalence}
use Rattle.std.proofs.Math.Nat.{mod-lt}
use Rattle.std.specs.List.{fold}
use mathlib.Core.List.{IsPrefix}
use Rattle.papaya_words_law.specs.Class.{IsOn}
use Rattle.papaya_words_law.specs.Grows.{Agrees, Entry, IsLawfulPlan, setting_in}
use Rattle.papaya_words.specs.Chunks.{chunk_len, chunk_of}
use Rattle.papaya_words.specs.declared.resize_mode.ResizeMode.{ResizeMode}
use Rattle.papaya_words_law.specs.Code.{IsHashed}
use Rattle.papaya_words_law.proofs.Hashing.{hashed_lawful}
use Rattle.papaya_words_law.proofs.Logs.{lawful_in, log_agrees}
use Rattle.papaya_map_book.specs.declared.rule.entry.Begun.{Begun}
use Rattle.papaya_map_book.specs.declared.rule.entry.Event.{Event}
use Rattle.papaya_map_book.specs.Hashes.{hash_of}
use Rattle.papaya_map_book.specs.Logs.{Stored, coding_of, entries_of, is_blocking, plan_of, setting_of, state_of}
use Rattle.papaya_map_book.specs.Rule.{IsLawfulLog}
use Rattle.papaya_map_book.proofs.Logs.{entries-append}

-- equal keys hash alike
alike : {K S H : Type 0} (eq : K → K → Bool) (input : K → List (List ℕ)) (build : S → H) (write : H → List ℕ → H) (finish : H → ℕ)
    → ((x y : K) → eq x y ≡ true → input x ≡ input y) → (s : S) (x y : K) → eq x y ≡ true
    → hash_of input build write finish s x ≡ hash_of input build write finish s y
alike eq input build write finish respects s x y e = ap (λ z. finish (fold write (build s) z) % 2 ^ 64) (respects x y e)

module _ {K V S H : Type 0} (eq : K → K → Bool) (input : K → List (List ℕ)) (build : S → H) (write : H → List ℕ → H) (finish : H → ℕ)
    (classes : IsEquivalence eq) (respects : (x y : K) → eq x y ≡ true → input x ≡ input y) where
  -- lawful keys have a lawful plan
  pub plans : (mode : ResizeMode) (most : Option ℕ) (s : S) → IsLawfulPlan (plan_of {V = V} eq (hash_of input build write finish s) mode most)
  plans mode most s =
      hashed_lawful (is_blocking mode) (chunk_of (chunk_len mode)) most (λ (p : Stored K V). p.value.key.value) eq
      (hash_of input build write finish s) classes.refl (λ k l e. classes.symm l k ∙ e) (λ k l m e f. classes.congr k l m e ∙ f)
      (alike eq input build write finish respects s)

  module _ (b : Begun K V S) (log : List (Event K V S)) (l : IsLawfulLog eq (hash_of input build write finish) b log) where
    abbrev hash : K → ℕ
    hash = hash_of input build write finish b.hasher

    -- so the machines' laws hold in it
    pub is_hashed : IsHashed (setting_of eq hash b.mode b.limit log) (coding_of hash)
    is_hashed = record {
      lawful = lawful_in (plan_of eq hash b.mode b.limit) (plans b.mode b.limit b.hasher) (entries_of log) l.sized;
      coding = record {
        respects = alike eq input build write finish respects b.hasher;
        hash_fits = λ k.
            mod-lt (finish (fold write (build b.hasher) (input k))) (omega arith);
      };
      places = λ k t j. refl;
    }

    -- and the two settings agree on the tables that came
    pub agrees_later : (log' : List (Event K V S)) → IsPrefix log log'
        → Agrees (IsOn (state_of log).first (state_of log).next) (setting_of eq hash b.mode b.limit log) (setting_of eq hash b.mode b.limit log')
    agrees_later log' pre =
        let plan = plan_of {V = V} eq hash b.mode b.limit in
        let entries : entries_of log ++ entries_of pre.0 ≡ entries_of log' = sym (entries-append log pre.0) ∙ ap entries_of pre.1 in
        subst (λ (es : List (Entry (Stored K V))).
        Agrees (IsOn (state_of log).first (state_of log).next) (setting_in plan (entries_of log)) (setting_in plan es)) entries
        (log_agrees plan (entries_of log) (entries_of pre.0))
