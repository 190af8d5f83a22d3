-- The scan of a slot continues by the word that is there and by the closure's result for its pair.
use Rattle.std.proofs.Common.{◌≡◌, inl, inr, ⊎_elim, ℕ, suc, ◌==◌, Bool, true, false, Option, None}
use Rattle.std.proofs.Common.{Some, List, [], ◌∷◌, ◌++◌, map, append_assoc, eqb-true, refl, sym, ap}
use Rattle.std.proofs.Common.{◌∙◌, subst}
use Rattle.std.proofs.lemmas.Bool.{cases_Bool, eqb-false}
use Rattle.std.proofs.lemmas.List.{map-append}
use Rattle.std.specs.Cmp.{IsEquivalence}
use mathlib.Core.List.{IsPrefix}
use Rattle.logbook.specs.Pages.{Book}
use Rattle.papaya_words.specs.Word.{kind_of}
use Rattle.papaya_words.specs.declared.word.Kind.{Kind}
use Rattle.papaya_words.specs.declared.word.Kind.TheVariants as kinds
use Rattle.papaya_words_law.specs.Code.{IsOfKind}
use Rattle.papaya_words_law.specs.Exchange.{Live, Buried, Exchange, State, after}
use Rattle.papaya_words_law.specs.Invariant.{named}
use Rattle.papaya_words_law.proofs.CodeViews.{word_of_kind}
use Rattle.papaya_words_law.proofs.Slots.{put_there}
use Rattle.papaya_map_book.specs.declared.rule.entry.Begun.{Begun}
use Rattle.papaya_map_book.specs.declared.rule.entry.Event.{Event}
use Rattle.papaya_map_book.specs.declared.rule.entry.Event.TheVariants.{Stepped}
use Rattle.papaya_map_book.specs.declared.rule.entry.Step.{Step}
use Rattle.papaya_map_book.specs.Calls.{IsSlot}
use Rattle.papaya_map_book.specs.Logs.{Stored, exchange_of, state_of, steps_of}
use Rattle.papaya_map_book.specs.Own.{last_if, last_in}
use Rattle.papaya_map_book.specs.Rule.{IsLawfulLog}
use Rattle.papaya_map_book.proofs.Logs.{prefix_trans, state_more, steps-append}
use Rattle.papaya_map_lookup.specs.History.{Change, changes_by, changes_of, history_of, key_of}
use Rattle.papaya_map_lookup.proofs.Histories.{changes-append, history_since}
use Rattle.papaya_map_change.proofs.ResizingRelies.{C, G, hash}
use Rattle.papaya_map_change.proofs.ClosureCalls.{all_shown}
use Rattle.papaya_map_scan.specs.Leaving.{Drops, HasCalled}
use Rattle.papaya_map_scan.specs.Meeting.{HadPair, has_pair}
use Rattle.papaya_map_scan.specs.Taking.{IsBuried, IsScannedUpTo, IsTaken, IsTakenAt}
use Rattle.papaya_map_scan.proofs.Pairs.{HasIt}
use Rattle.papaya_map_scan.proofs.Taken.{scanned_kept, scanned_later, scanned_past, scanned_shown, scanned_buried}

-- two words are one, or they are not
pub same_word : (m n : ℕ) → m ≡ n → (m == n) ≡ true
same_word m n is = ⊎_elim (λ e. e) (λ e. absurd (eqb-false m n e is)) (cases_Bool (m == n))

pub other_word : (m n : ℕ) → (m ≡ n → ⊥) → (m == n) ≡ false
other_word m n differs = ⊎_elim (λ e. absurd (differs (eqb-true m n e))) (λ e. e) (cases_Bool (m == n))

pub some_same : {X : Type 0} (x y : X) → Some x ≡ Some y → x ≡ y
some_same x y e = cc e

module _ {K V F : Type 0} (eq : K → K → Bool) (judges : F → Stored K V → Bool → F → Type 0) (old new made mine : List (Change K (Stored K V)))
    (first left : F) (said : List (Stored K V × Bool)) (h : HasCalled eq old new made mine judges first left said) where
  had_wider : (newer : List (Change K (Stored K V))) → IsPrefix new newer → (p : Stored K V) → HadPair eq old new p → HadPair eq old newer p
  had_wider newer pre p r = record { seen = r.seen; since = r.since; until = prefix_trans r.seen new newer r.until pre; is = r.is }

  -- the calls of the closure so far, over a longer log
  pub shown_later : (newer : List (Change K (Stored K V))) → IsPrefix new newer → HasCalled eq old newer made mine judges first left said
  shown_later newer pre = record {
    has_said = h.has_said;
    had = all_shown (HadPair eq old new) (HadPair eq old newer) (had_wider newer pre) said
        h.had;
    changes = h.changes;
    made_is = h.made_is;
    dropped = h.dropped;
  }

  module _ (q : Stored K V) (next : F) (had : HadPair eq old new q) where
    -- the closure is called with a further pair
    pub shown_more : (stays : Bool) → judges left q stays next → HasCalled eq old new made mine judges first next ((q, stays) ∷ said)
    shown_more stays says = record {
      has_said = (left, h.has_said, says);
      had = (had, h.had);
      changes = h.changes;
      made_is = h.made_is;
      dropped = inl
          h.dropped;
    }

    -- and the pair is taken out
    pub shown_dropped : judges left q false next → (newer : List (Change K (Stored K V))) → IsPrefix new newer → (change : Change K (Stored K V))
        → Drops change q → (mine' : List (Change K (Stored K V))) → mine' ≡ mine ++ change ∷ []
        → HasCalled eq old newer made mine' judges first next ((q, false) ∷ said)
    shown_dropped says newer pre change drops mine' is = record {
      has_said = (left, h.has_said, says);
      had = (had_wider newer pre q had, all_shown (HadPair eq old new) (HadPair eq old newer) (had_wider newer pre) said h.had);
      changes = h.changes ++ change ∷ [];
      made_is = is ∙ (ap (λ (cs : List (Change K (Stored K V))). cs ++ change ∷ []) h.made_is ∙ append_assoc made h.changes (change ∷ []));
      dropped = inr (refl, h.changes, change, refl, drops, h.dropped);
    }

last_snoc : {X : Type 0} (xs : List X) (x : X) → last_in (xs ++ x ∷ []) ≡ x ∷ []
last_snoc [] x = refl
last_snoc (y ∷ []) x = refl
last_snoc (y ∷ (z ∷ zs)) x = last_snoc (z ∷ zs) x

module _ {K V S : Type 0} (log : List (Event K V S)) (t x : ℕ) (shown : Stored K V) (r : IsBuried log t x shown) where
  -- the change that a deletion makes
  abbrev pub burial : Change K (Stored K V)
  burial = record { class = key_of r.pair; taken = Some r.pair; put = None }

  pub burial_drops : Drops burial shown
  burial_drops = (r.pair, refl, refl, r.same)

  -- it is the last step of the call's own
  pub burial_done : (done done' : List (Step K V)) → done' ≡ done ++ last_if true (steps_of log) → changes_by done' ≡ changes_by done ++ burial ∷ []
  burial_done done done' is =
      let steps : steps_of log ≡ steps_of r.before ++ r.step ∷ [] = ap steps_of r.is ∙ (steps-append r.before (Stepped r.step ∷ []) ∙ refl) in
      let last : last_in (steps_of log) ≡ r.step ∷ [] = ap last_in steps ∙ last_snoc (steps_of r.before) r.step in
      let whole : map exchange_of done' ≡ map exchange_of done ++ exchange_of r.step ∷ [] = ap (map exchange_of)
      (is ∙ ap (λ (es : List (Step K V)). done ++ es) last) ∙ map-append exchange_of done (r.step ∷ []) in
      ap (changes_of key_of) whole ∙ (changes-append key_of (map exchange_of done) (exchange_of r.step ∷ [])
      ∙ ap (λ (e : Exchange (Stored K V)). changes_by done ++ changes_of key_of (e ∷ [])) r.buries)

  -- and the pair is no longer in the slot
  pub burial_there : (state_of log).slot t x ≡ Buried r.pair
  burial_there =
      ap (λ (l : List (Event K V S)). (state_of l).slot t x) r.is
      ∙ (ap (λ (s : State (Stored K V)). s.slot t x) (state_more r.before r.step ∙ ap (after (state_of r.before)) r.buries)
      ∙ (put_there (state_of r.before) t x (Buried r.pair) t x (refl, refl)).0)

module _ {K V S H F : Type 0} (eq : K → K → Bool) (input : K → List (List ℕ)) (build : S → H) (write : H → List ℕ → H) (finish : H → ℕ)
    (classes : IsEquivalence eq) (respects : (x y : K) → eq x y ≡ true → input x ≡ input y) (b : Begun K V S)
    (judges : F → Stored K V → Bool → F → Type 0) (began v : List (Event K V S)) (mine : List (Change K (Stored K V))) (f : F) (t : ℕ) where
  abbrev hashing : S → K → ℕ
  hashing = hash eq input build write finish classes respects b

  -- the slots of the table were scanned until here
  abbrev pub So : (log : List (Event K V S)) → (mine' : List (Change K (Stored K V))) → F → (from upto : ℕ) → (ended : Type 0) → Type 0
  So log mine' f' from upto ended = (first : F) (made : List (Change K (Stored K V))) (said : List (Stored K V × Bool))
      → HasCalled eq (history_of began) (history_of v) made mine judges first f said
      → (said' : List (Stored K V × Bool)) × HasCalled eq (history_of began) (history_of log) made mine' judges first f' said'
      × (ended → (at : List (Event K V S)) → IsTakenAt b began v t at → IsScannedUpTo at v t from said → IsScannedUpTo at log t upto said')

  module _ (name : Book) (log : List (Event K V S)) (pre : IsPrefix v log) (mine' : List (Change K (Stored K V))) (f' : F) (x word : ℕ)
      (pair : Option (Stored K V)) (s : IsSlot eq hashing b name t x word log pair) (so : So log mine' f' x x (Unit {0})) where
    -- the table was taken before the log that is observed now
    abbrev moment : (at : List (Event K V S)) → IsTakenAt b began v t at → IsTaken b began log t
    moment at r = record { at = at; since = r.since; until = prefix_trans at v log r.until pre; root = r.root; some = r.some; last = r.last }

    -- no pair is in the slot
    pub so_past : (ended : Type 0) → has_pair (kind_of word) ≡ false → So log mine' f' x (suc x) ended
    so_past ended none first made said h =
        let one = so first made said h in (
          one.0,
          one.1,
          λ e at taken scanned. scanned_past eq input build write finish classes respects b began log s.lawful t (moment at taken) x
              one.0 (one.2 tt at taken scanned) word s.is none,
        )

    -- a copier has been there
    pub so_stopped : (ended : Type 0) → (ended → ⊥) → So log mine' f' x (suc x) ended
    so_stopped ended never first made said h = let one = so first made said h in (one.0, one.1, λ e. absurd (never e))

    module _ (live : kind_of word ≡ kinds.Live) (q : Stored K V) (is : pair ≡ Some q) (had : HadPair eq (history_of began) (history_of log) q) (f'' : F) where
      -- this pair is in it
      there : HasIt ((state_of log).slot t x) q
      there =
          let of_kind : IsOfKind kinds.Live ((state_of log).slot t x) = subst (λ (k : Kind). IsOfKind k ((state_of log).slot t x))
          (ap kind_of s.is ∙ live) (word_of_kind (G eq input build write finish classes respects b log)
          (C eq input build write finish classes respects b) ((state_of log).slot t x)) in
          let names : Some of_kind.0 ≡ Some q = ap named (sym of_kind.1) ∙ (s.names ∙ is) in
          let same : of_kind.0 ≡ q = cc names in
          inl (of_kind.1 ∙ ap Live same)

      -- it stays
      pub so_kept : (ended : Type 0) → judges f' q true f'' → So log mine' f'' x (suc x) ended
      so_kept ended says first made said h =
          let one = so first made said h in (
            (q, true) ∷ one.0,
            shown_more eq judges (history_of began) (history_of log) made mine' first f' one.0 one.1 q f'' had true says,
            (λ e at taken scanned. scanned_kept eq input build write finish classes respects b began log s.lawful t (moment at taken) x one.0
                (one.2 tt at taken scanned) q there),
          )

      -- the closure returned `false` for it
      pub so_shown : judges f' q false f'' → So log mine' f'' x x (Unit {0})
      so_shown says first made said h =
          let one = so first made said h in (
            (q, false) ∷ one.0,
            shown_more eq judges (history_of began) (history_of log) made mine' first f' one.0 one.1 q f'' had false says,
            (λ e at taken scanned. scanned_shown eq input build write finish classes respects b began log s.lawful t (moment at taken) x one.0
                (one.2 tt at taken scanned) q there false),
          )

      -- and it was deleted
      pub so_buried : (ended : Type 0) → judges f' q false f'' → (log' : List (Event K V S)) → IsPrefix log log' → IsLawfulLog eq hashing b log'
          → IsBuried log' t x q → (mine'' : List (Change K (Stored K V))) → ((r : IsBuried log' t x q) → mine'' ≡ mine' ++ burial log' t x q r ∷ [])
          → So log' mine'' f'' x (suc x) ended
      so_buried ended says log' on l r mine'' done first made said h =
          let one = so first made said h in (
            (q, false) ∷ one.0,
            shown_dropped eq judges (history_of began) (history_of log) made mine' first f' one.0 one.1 q f'' had says (history_of log')
                (history_since log log' on) (burial log' t x q r) (burial_drops log' t x q r) mine'' (done r),
            (λ e at taken scanned.
                let then' : IsTaken b began log' t = record {
                  at = at;
                  since = taken.since;
                  until = prefix_trans at v log' taken.until
                      (prefix_trans v log log' pre on);
                  root = taken.root;
                  some = taken.some;
                  last = taken.last;
                } in
                scanned_buried eq input build write finish classes respects b began log' l t then' x ((q, false) ∷ one.0)
                (scanned_later at log log' on t x ((q, false) ∷ one.0)
                (scanned_shown eq input build write finish classes respects b began log s.lawful t (moment at taken) x one.0
                (one.2 tt at taken scanned) q there false))
                r.pair (burial_there log' t x q r)),
          )
