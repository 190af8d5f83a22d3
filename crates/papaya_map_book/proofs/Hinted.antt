-- A hint of a slot stays valid for good, so the rule for a slot's hint holds of it now.
use Rattle.std.proofs.Common.{◌≡◌, ◌≢◌, inl, inr, ⊎_elim, ℕ, ◌+◌, ◌*◌, ◌%◌, ◌^◌, ◌<◌, Bool, true, List, [], ◌∷◌, ◌++◌, Some, refl, sym, ap, ◌∙◌, subst}
use Rattle.std.proofs.Math.Nat.{zero-div}
use Rattle.std.proofs.lemmas.Bool.{cases_eq}
use Rattle.std.specs.Cmp.{IsEquivalence}
use mathlib.Core.List.{IsPrefix}
use Rattle.logbook.specs.Pages.{Grows}
use Rattle.papaya_call.specs.declared.ask.At.TheVariants.{Slot}
use Rattle.papaya_words_law.specs.Allows.{AllAllowed}
use Rattle.papaya_words_law.specs.Code.{Coding}
use Rattle.papaya_words_law.specs.Exchange.{Exchange, Setting, run, start}
use Rattle.papaya_words_law.specs.Hints.{IsHint}
use Rattle.papaya_words_law.specs.Later.{IsLater}
use Rattle.papaya_words_law.proofs.Hints.{hint_agrees, hint_lasts, hint_none}
use Rattle.papaya_words_law.proofs.OneMap.{later}
use Rattle.papaya_map_book.specs.declared.rule.entry.Begun.{Begun}
use Rattle.papaya_map_book.specs.declared.rule.entry.Event.{Event}
use Rattle.papaya_map_book.specs.declared.rule.entry.Event.TheVariants.{Begin}
use Rattle.papaya_map_book.specs.Hashes.{hash_of}
use Rattle.papaya_map_book.specs.Hinted.{AreHinted, IsHinted, IsSlotHint, WasHint, byte_of}
use Rattle.papaya_map_book.specs.Logs.{Stored, coding_of, exchanges_of, first_in, key_at, setting_of, state_of, steps_of}
use Rattle.papaya_map_book.specs.Rule.{IsLawfulLog}
use Rattle.papaya_map_book.proofs.Loads.{key_since}
use Rattle.papaya_map_book.proofs.Logs.{exchanges_of-append, prefix_trans}
use Rattle.papaya_map_book.proofs.Settings.{is_hashed}
use Rattle.papaya_map_book.proofs.Tellings.{first_prefix, opened_with}

module _ {K V S : Type 0} (eq : K → K → Bool) (hash : S → K → ℕ) where
  -- the rule's statement about a hint stays true of each longer log
  hint_grows : (k : ℕ) → Grows {E = Event K V S} (IsHinted eq hash k)
  hint_grows k n xs ys pre (inl e) = inl e
  hint_grows k n xs ys pre (inr w) = inr (record {
    begun = w.begun;
    before = w.before;
    since = prefix_trans w.before xs ys w.since pre;
    table = w.table;
    place = w.place;
    key_is = w.key_is;
    is = w.is;
  })

  -- and so does its statement about eight of them
  pub hinted_grows : (k : ℕ) → Grows {E = Event K V S} (AreHinted eq hash k)
  hinted_grows k n xs ys pre all = λ i lt. hint_grows (k + i) (byte_of i n) xs ys pre (all i lt)

  -- a number without hints states nothing
  pub none_hinted : (k : ℕ) (log : List (Event K V S)) → AreHinted eq hash k 0 log
  none_hinted k log = λ i lt. inl (ap (λ (n : ℕ). n % 256) (zero-div (2 ^ (i * 8))))

  -- a hint of a slot may be written among those of others
  pub may_say : (b : Begun K V S) (t x k n m hint : ℕ) (seen log : List (Event K V S)) → IsSlotHint eq hash b t x hint seen
      → key_at (steps_of seen) (Slot t x) ≡ Some (k + x % 8) → IsPrefix seen log → AreHinted eq hash k n log
      → byte_of (x % 8) m ≡ hint → ((i : ℕ) → i < 8 → i ≢ x % 8 → byte_of i m ≡ byte_of i n) → AreHinted eq hash k m log
  may_say b t x k n m hint seen log is key since all this others = λ i lt.
      let was : WasHint eq hash (k + x % 8) hint log = record { begun = b; before = seen; since = since; table = t; place = x; key_is = key; is = is } in
      let here : IsHinted eq hash (k + x % 8) (byte_of (x % 8) m) log = inr (subst (λ z. WasHint eq hash (k + x % 8) z log) (sym this) was) in
      ⊎_elim (λ e. subst (λ z. IsHinted eq hash (k + z) (byte_of z m) log) (sym e) here)
      (λ apart. subst (λ z. IsHinted eq hash (k + i) z log) (sym (others i lt apart)) (all i lt))
      (cases_eq i (x % 8))

module _ {K V S H : Type 0} (eq : K → K → Bool) (input : K → List (List ℕ)) (build : S → H) (write : H → List ℕ → H) (finish : H → ℕ)
    (classes : IsEquivalence eq) (respects : (x y : K) → eq x y ≡ true → input x ≡ input y) (b : Begun K V S) where
  abbrev hash : S → K → ℕ
  hash = hash_of input build write finish

  module _ (log : List (Event K V S)) (lawful : IsLawfulLog eq hash b log) where
    abbrev g : Setting K (Stored K V)
    g = setting_of eq (hash b.hasher) b.mode b.limit log

    abbrev c : Coding K (Stored K V)
    c = coding_of (hash b.hasher)

    -- 0 states nothing about any slot
    nothing : (t x n : ℕ) → n ≡ 0 → IsSlotHint eq hash b t x n log
    nothing t x n e = record { lawful = lawful; is = subst (λ z. IsHint g c (state_of log) t x z) (sym e) (hint_none g c ((state_of log).slot t x)) }

    -- a hint that was valid for a beginning of the log
    pub hint_later : (t x n : ℕ) (before : List (Event K V S)) → IsPrefix before log → IsSlotHint eq hash b t x n before → IsSlotHint eq hash b t x n log
    hint_later t x n before since is =
        let hashed = is_hashed eq input build write finish classes respects b log lawful in
        let es = exchanges_of before in let fs = exchanges_of since.0 in
        let all : es ++ fs ≡ exchanges_of log = sym (exchanges_of-append before since.0) ∙ ap exchanges_of since.1 in
        let may : AllAllowed g start (es ++ fs) = subst (AllAllowed g start) (sym all) lawful.allowed in
        let after : IsLater g (state_of before) (state_of log) = subst (λ (z : List (Exchange (Stored K V))). IsLater g (run es start) (run z start))
        all (later g hashed.lawful es fs may) in record {
          lawful = lawful;
          is = hint_lasts g c hashed.coding (state_of before) (state_of log) after t x n
              (hint_agrees (setting_of eq (hash b.hasher) b.mode b.limit before) g c (λ p. refl) ((state_of before).slot t x) n is.is);
        }

    -- in which the book was opened with the same parameters, and no two slots share a word
    was_here : (t x k n : ℕ) → key_at (steps_of log) (Slot t x) ≡ Some k → WasHint eq hash k n log → IsSlotHint eq hash b t x n log
    was_here t x k n key w =
        let first : first_in w.before ≡ Some (Begin w.begun) = ap first_in w.is.lawful.is in
        let same : b ≡ w.begun = opened_with eq hash w.begun b log
        (prefix_trans (Begin w.begun ∷ []) w.before log (first_prefix (Begin w.begun) w.before first) w.since) lawful in
        let one : Slot w.table w.place ≡ Slot t x = lawful.apart (Slot w.table w.place) (Slot t x) k
        (key_since w.before log (Slot w.table w.place) k w.since w.key_is) key in
        let table : w.table ≡ t = cc one in let place : w.place ≡ x = cc one in
        subst (λ (z : ℕ × ℕ). IsSlotHint eq hash b z.0 z.1 n log) (λ i. (table i, place i))
        (hint_later w.table w.place n w.before w.since (subst (λ z. IsSlotHint eq hash z w.table w.place n w.before) (sym same) w.is))

    -- so the hint that the rule permits beside a slot's word may be the slot's hint
    pub said_by_now : (t x k n : ℕ) → key_at (steps_of log) (Slot t x) ≡ Some k → IsHinted eq hash k n log → IsSlotHint eq hash b t x n log
    said_by_now t x k n key (inl e) = nothing t x n e
    said_by_now t x k n key (inr w) = was_here t x k n key w
