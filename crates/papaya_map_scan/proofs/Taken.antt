-- The slots of a table that was taken hold entries of the map, which may be deleted.
use Rattle.std.proofs.Common.{◌≡◌, ◌⊎◌, inl, inr, ⊎_elim, ℕ, suc, ◌<◌, ◌≤◌, ◌==◌, Bool, true, false}
use Rattle.std.proofs.Common.{MatchBool, Option, None, Some, List, [], ◌∷◌, ◌++◌, length}
use Rattle.std.proofs.Common.{append_assoc, append-nil, eqb-true, refl, sym, ap, ◌∙◌, subst, arith}
use Rattle.std.proofs.lemmas.Bool.{cases_Bool, cases_lt}
use Rattle.std.specs.Cmp.{IsEquivalence}
use mathlib.Core.List.{IsPrefix}
use Rattle.logbook.specs.Pages.{Book}
use Rattle.papaya_words.specs.Word.{kind_of, pair_of, buried_word}
use Rattle.papaya_words.specs.declared.word.Kind.{Kind}
use Rattle.papaya_words.specs.declared.word.Kind.TheVariants as kinds
use Rattle.papaya_call.specs.declared.ask.At.{At}
use Rattle.papaya_call.specs.declared.ask.At.TheVariants.{Root, Next, Aborted, Done, Slot, Made as Made_word}
use Rattle.papaya_call.specs.declared.ask.StepKind.TheVariants as steps_of_kind
use Rattle.papaya_call.specs.Remove.{grave_word}
use Rattle.papaya_words_law.specs.Allows.{AllAllowed}
use Rattle.papaya_words_law.specs.Code.{Coding, IsHashed, IsOfKind, code}
use Rattle.papaya_words_law.specs.Exchange.{Word, Live, Marked, Copied, Buried, Exchange, Setting, State, run, slot_put, start}
use Rattle.papaya_words_law.specs.Invariant.{IsKeeping, named}
use Rattle.papaya_words_law.specs.Meaning.{IsAtMoment, IsLawful, map_left}
use Rattle.papaya_words_law.specs.View.{IsReached, look}
use Rattle.papaya_words_law.proofs.Codes.{code_kind, code_pair}
use Rattle.papaya_words_law.proofs.CodeViews.{word_of_kind}
use Rattle.papaya_words_law.proofs.Content.{held_word}
use Rattle.papaya_words_law.proofs.CopierFacts.{last_root}
use Rattle.papaya_words_law.proofs.Later.{later_run}
use Rattle.papaya_words_law.proofs.Moments.{map_of-append}
use Rattle.papaya_words_law.proofs.OneMap.{keeping_sound, legal_changes as all_legal, means, root_reached}
use Rattle.papaya_words_law.proofs.Slots.{put_elsewhere, put_there}
use Rattle.papaya_words_law.proofs.Walks.{root_holds}
use Rattle.papaya_call_law.specs.TrueAnswers.{IsWritten, word_of}
use Rattle.papaya_call_law.specs.ScanAnswers.{IsLastAnswer}
use Rattle.papaya_call_law.proofs.ScanSlots.{met_had, reached_now}
use Rattle.papaya_map_book.specs.declared.rule.entry.Begun.{Begun}
use Rattle.papaya_map_book.specs.declared.rule.entry.Event.{Event}
use Rattle.papaya_map_book.specs.declared.rule.entry.Event.TheVariants.{Stepped}
use Rattle.papaya_map_book.specs.declared.rule.entry.Named.TheVariants as names
use Rattle.papaya_map_book.specs.declared.rule.entry.Step.{Step}
use Rattle.papaya_map_book.specs.declared.rule.entry.Step.TheVariants as steps
use Rattle.papaya_map_book.specs.Calls.{IsSlot, IsSlotTried, IsTable}
use Rattle.papaya_map_book.specs.Logs.{Stored, exchanges_of, pair_named, state_of, steps_of}
use Rattle.papaya_map_book.specs.Plays.{CanExchange, IsMeant, MayStep}
use Rattle.papaya_map_book.specs.Rule.{IsLawfulLog, word_in}
use Rattle.papaya_map_book.specs.Sheets.{Sheet}
use Rattle.papaya_map_book.proofs.Logs.{exchanges_of-append, prefix_trans}
use Rattle.papaya_map_book.proofs.TableSizes.{sizes}
use Rattle.papaya_map_lookup.specs.History.{Change, change_of, changes_of, history_of, key_of, replay}
use Rattle.papaya_map_lookup.proofs.Histories.{changes-append, changes_begin, history_legal, history_since, legal_changes, replay_left}
use Rattle.papaya_map_change.proofs.ResizingRelies.{C, G, first_may, hash, hashed, kept_map, since_may, since_run}
use Rattle.papaya_map_scan.specs.Leaving.{IsRetained, WasTakenOut}
use Rattle.papaya_map_scan.specs.Meeting.{HadPair, IsMet, has_pair}
use Rattle.papaya_map_scan.specs.Taking.{Holds, IsBuried, IsScannedUpTo, IsTaken}
use Rattle.papaya_map_scan.proofs.Leaving.{out_later, out_or_still, retained_earlier, retained_none}
use Rattle.papaya_map_scan.proofs.Pairs.{HasIt, IsPairOut, change_out, held_seen, it_kind, it_named, its_slot, pair_then}

-- a table that was taken once was taken for good
pub taken_later : {K V S : Type 0} (b : Begun K V S) (old log log' : List (Event K V S)) (t : ℕ) → IsTaken b old log t → IsPrefix log log'
    → IsTaken b old log' t
taken_later b old log log' t r pre = record {
  at = r.at;
  since = r.since;
  until = prefix_trans r.at log log' r.until pre;
  root = r.root;
  some = r.some;
  last = r.last;
}

-- and it was since any earlier log
pub taken_earlier : {K V S : Type 0} (b : Begun K V S) (older old log : List (Event K V S)) (t : ℕ) → IsPrefix older old → IsTaken b old log t
    → IsTaken b older log t
taken_earlier b older old log t pre r = record {
  at = r.at;
  since = prefix_trans older old r.at pre r.since;
  until = r.until;
  root = r.root;
  some = r.some;
  last = r.last;
}

-- slots that were scanned stay so for good
pub scanned_later : {K V S : Type 0} (at log log' : List (Event K V S)) → IsPrefix log log' → (t upto : ℕ) (said : List (Stored K V × Bool))
    → IsScannedUpTo at log t upto said → IsScannedUpTo at log' t upto said
scanned_later at log log' pre t upto said scanned x lt p had =
    ⊎_elim (λ out. inl (out_later p (history_of at) (history_of log) (history_of log') (history_since log log' pre) out)) (λ kept. inr kept)
    (scanned x lt p had)

-- and so does an entry that the map had
pub had_later : {K V S : Type 0} (eq : K → K → Bool) (old log log' : List (Event K V S)) (p : Stored K V)
    → HadPair eq (history_of old) (history_of log) p → IsPrefix log log' → HadPair eq (history_of old) (history_of log') p
had_later eq old log log' p r pre = record {
  seen = r.seen;
  since = r.since;
  until = prefix_trans r.seen (history_of log) (history_of log') r.until
      (history_since log log' pre);
  is = r.is;
}

-- a word that is put into a slot is the only one that changes
slot_written : {K P : Type 0} → (g : Setting K P) (c : Coding K P) (s : State P) (t x : ℕ) (w : Word P)
    → IsWritten g c s (Slot t x) (code g c w) (slot_put s t x w)
slot_written g c s t x w = record { here = ap (code g c) (put_there s t x w t x (refl, refl)).0; others = others }
  where
    others : (other : At) → (other ≡ Slot t x → ⊥) → word_of g c (slot_put s t x w) other ≡ word_of g c s other
    others Root different = refl
    others (Next u) different = refl
    others (Aborted u) different = refl
    others (Done u chunk) different = refl
    others Made_word different = refl
    others (Slot u y) different = ap (code g c) (put_elsewhere s t x w u y (λ e. different (ap (λ a. Slot a y) (sym e.0) ∙ ap (Slot t) (sym e.1))))

-- a deleted pair's word is that of its kind, Buried
grave_code : {K P : Type 0} → (g : Setting K P) (c : Coding K P) → IsHashed g c → (p : P) (word : ℕ) → code g c (Live p) ≡ word
    → code g c (Buried p) ≡ grave_word word
grave_code g c hashed p word e =
    ap buried_word (sym (code_pair g c hashed.coding (Live p) p refl)) ∙ ap grave_word e

-- a word of such a kind names a pair
pair_there : {P : Type 0} (kind : Kind) (w : Word P) → IsOfKind kind w → has_pair kind ≡ true → (p : P) × ((w ≡ Live p) ⊎ (w ≡ Marked p) ⊎ (w ≡ Copied p))
pair_there kinds.Live w is some = (is.0, inl is.1)
pair_there kinds.Marked w is some = (is.0, inr (inl is.1))
pair_there kinds.Copied w is some = (is.0, inr (inr is.1))
pair_there kinds.Empty w is some = absurd (cc some)
pair_there kinds.Buried w is some = absurd (cc some)
pair_there kinds.Closed w is some = absurd (cc some)

module _ {K V S H : Type 0} (eq : K → K → Bool) (input : K → List (List ℕ)) (build : S → H) (write : H → List ℕ → H) (finish : H → ℕ)
    (classes : IsEquivalence eq) (respects : (x y : K) → eq x y ≡ true → input x ≡ input y) (b : Begun K V S) where
  abbrev hashing : S → K → ℕ
  hashing = hash eq input build write finish classes respects b

  abbrev Lawful : List (Event K V S) → Type 0
  Lawful = IsLawfulLog eq hashing b

  abbrev Cs : Coding K (Stored K V)
  Cs = C eq input build write finish classes respects b

  -- with blocking the root is taken as it is found
  pub takes_found : (old log : List (Event K V S)) → IsPrefix old log → Rattle.papaya_map_book.specs.Logs.is_blocking b.mode ≡ true → (t : ℕ) → 0 < t
      → (state_of log).root ≡ t → IsTaken b old log t
  takes_found old log pre blocks t some root =
      record { at = log; since = pre; until = ([], append-nil log); root = root; some = some; last = λ inc. absurd (cc (inc, blocks)) }

  -- a root that has no next table then is still the root
  pub takes_last : (old v log : List (Event K V S)) → IsPrefix old v → IsPrefix v log → Lawful v → Lawful log → (t : ℕ) → 0 < t
      → (state_of v).root ≡ t → (state_of log).next t ≡ 0 → IsTaken b old log t
  takes_last old v log first pre l l' t some root none =
      let g = G eq input build write finish classes respects b log in
      let law = (hashed eq input build write finish classes respects b log l').lawful in
      let then' : IsKeeping g (state_of v) (map_left g (exchanges_of v)) = kept_map eq input build write finish classes respects b v log l' pre in
      let was : (state_of v).was_root t ≡ true = subst (λ (n : ℕ). (state_of v).was_root n ≡ true) root
      ((keeping_sound g (state_of v) (map_left g (exchanges_of v)) then').root_was (subst (λ (n : ℕ). 0 < n) (sym root) some)) in
      let later = later_run g law (exchanges_of pre.0) (state_of v) (since_may eq input build write finish classes respects b v log l' pre) in
      let still : (state_of log).was_root t ≡ true = subst (λ (s : State (Stored K V)). s.was_root t ≡ true)
      (since_run eq input build write finish classes respects b v log l' pre) (later.was t was) in
      let now : IsKeeping g (state_of log) (map_left g (exchanges_of log)) = kept_map eq input build write finish classes respects b log log l'
      ([], append-nil log) in record {
        at = log;
        since = prefix_trans old v log first pre;
        until = ([], append-nil log);
        root = last_root g (state_of log) (map_left g (exchanges_of log)) now t still none;
        some = some;
        last = λ inc. none;
      }

  module _ (old log : List (Event K V S)) (l : Lawful log) (t : ℕ) (r : IsTaken b old log t) where
    abbrev Gs : Setting K (Stored K V)
    Gs = G eq input build write finish classes respects b log

    law : IsLawful Gs
    law = (hashed eq input build write finish classes respects b log l).lawful

    -- the words when it was taken, the map then, and the exchanges since
    abbrev taken_words : State (Stored K V)
    taken_words = state_of r.at

    abbrev taken_map : K → Option (Stored K V)
    taken_map = map_left Gs (exchanges_of r.at)

    abbrev since : List (Exchange (Stored K V))
    since = exchanges_of r.until.0

    keeps : IsKeeping Gs taken_words taken_map
    keeps = kept_map eq input build write finish classes respects b r.at log l r.until

    may : AllAllowed Gs taken_words since
    may = since_may eq input build write finish classes respects b r.at log l r.until

    ran : run since taken_words ≡ state_of log
    ran = since_run eq input build write finish classes respects b r.at log l r.until

    -- each key's search comes to it
    reached : (k : K) → IsReached Gs (state_of log) k t
    reached k = subst (λ (s : State (Stored K V)). IsReached Gs s k t) ran (reached_now Gs law taken_words taken_map keeps t r.root r.some r.last since may k)

    -- an entry that the map had at some point since then, it had in a history
    had_in : (p : Stored K V) → IsAtMoment Gs taken_map since (key_of p) (Some p) → HadPair eq (history_of old) (history_of log) p
    had_in p moment =
        let es = exchanges_of r.at ++ moment.so_far in
        let early : exchanges_of old ++ (exchanges_of r.since.0 ++ moment.so_far) ≡ es = sym
        (append_assoc (exchanges_of old) (exchanges_of r.since.0) moment.so_far)
        ∙ ap (λ (z : List (Exchange (Stored K V))). z ++ moment.so_far) (sym (exchanges_of-append old r.since.0) ∙ ap exchanges_of r.since.1) in
        let late : es ++ moment.rest ≡ exchanges_of log = append_assoc (exchanges_of r.at) moment.so_far moment.rest
        ∙ (ap (λ (z : List (Exchange (Stored K V))). exchanges_of r.at ++ z) moment.is
        ∙ (sym (exchanges_of-append r.at r.until.0) ∙ ap exchanges_of r.until.1)) in record {
          seen = changes_of key_of es;
          since = changes_begin key_of (exchanges_of old) (exchanges_of r.since.0 ++ moment.so_far) es early;
          until = changes_begin key_of es moment.rest (exchanges_of log) late;
          is = ap (λ (z : K → Option (Stored K V)). z (key_of p)) (replay_left Gs es)
              ∙ (ap (λ (z : K → Option (Stored K V)). z (key_of p)) (map_of-append Gs (exchanges_of r.at) moment.so_far (λ k. None)) ∙ moment.value_is);
        }

    -- the exchanges until it was taken, and those since
    begun : exchanges_of r.at ++ since ≡ exchanges_of log
    begun = sym (exchanges_of-append r.at r.until.0) ∙ ap exchanges_of r.until.1

    -- an exchange since then that takes a pair out is a change that does
    out_since : (p : Stored K V) → IsPairOut since p → WasTakenOut (history_of r.at) (history_of log) p
    out_since p o =
        let es = exchanges_of r.at ++ o.so_far in
        let change = change_out key_of p o.by o.out in
        let whole : (es ++ o.by ∷ []) ++ o.rest ≡ exchanges_of log = append_assoc es (o.by ∷ []) o.rest
        ∙ (append_assoc (exchanges_of r.at) o.so_far (o.by ∷ o.rest) ∙ (ap (λ (z : List (Exchange (Stored K V))). exchanges_of r.at ++ z) o.is ∙ begun)) in
        let same : changes_of key_of (es ++ o.by ∷ []) ≡ changes_of key_of es ++ change.0 ∷ [] = changes-append key_of es (o.by ∷ [])
        ∙ ap (λ (cs : List (Change K (Stored K V))). changes_of key_of es ++ cs) (append-nil (change_of key_of o.by) ∙ change.1) in record {
          before = changes_of key_of es;
          change = change.0;
          since = changes_begin key_of (exchanges_of r.at) o.so_far es refl;
          until = subst (λ (cs : List (Change K (Stored K V))). IsPrefix cs (history_of log)) same
              (changes_begin key_of (es ++ o.by ∷ []) o.rest (exchanges_of log) whole);
          is = change.2;
        }

    -- a pair that the map had in a slot then
    module _ (x : ℕ) (p : Stored K V) (had : Holds (taken_words.slot t x) p) where
      abbrev IsOut : Type 0
      IsOut = WasTakenOut (history_of r.at) (history_of log) p

      -- it is still there, or was taken out
      it_then : HasIt ((state_of log).slot t x) p ⊎ IsOut
      it_then = ⊎_elim (λ has. inl (subst (λ (s : State (Stored K V)). HasIt (s.slot t x) p) ran has)) (λ out. inr (out_since p out))
          (pair_then Gs law t x p since taken_words may had)

      -- no pair is there any longer
      pub past_out : (word : ℕ) → word_in eq hashing b log (Slot t x) ≡ word → has_pair (kind_of word) ≡ false → IsOut
      past_out word stands none =
          ⊎_elim
          (λ has. absurd (let some : has_pair (kind_of word) ≡ true = ap (λ (n : ℕ). has_pair (kind_of n)) (sym stands)
          ∙ (ap has_pair (code_kind Gs Cs ((state_of log).slot t x)) ∙ it_kind ((state_of log).slot t x) p has) in cc (some, none)))
          (λ out. out)
          it_then

      -- a deleted pair is there
      pub buried_out : (q : Stored K V) → (state_of log).slot t x ≡ Buried q → IsOut
      buried_out q is = ⊎_elim (λ has. absurd (⊎_elim (λ e. cc (e, is)) (⊎_elim (λ e. cc (e, is)) (λ e. cc (e, is))) has)) (λ out. out) it_then

      -- this pair is there
      pub named_out : (q : Stored K V) → named ((state_of log).slot t x) ≡ Some q → (q ≡ p) ⊎ IsOut
      named_out q names = ⊎_elim (λ has. inl (let mine = it_named ((state_of log).slot t x) p has in cc (names, mine))) (λ out. inr out) it_then

      -- a pair that is in another slot is not this one
      pub other_out : (y : ℕ) → (x ≡ y → ⊥) → (q : Stored K V) → HasIt ((state_of log).slot t y) q → (q ≡ p → ⊥) ⊎ IsOut
      other_out y apart q there =
          ⊎_elim
          (λ has. ⊎_elim
          (λ (same : eq (key_of q) (key_of p) ≡ true).
          absurd (apart (its_slot Gs law (state_of log) (map_left Gs (exchanges_of log))
          (kept_map eq input build write finish classes respects b log log l ([], append-nil log)) t x y p q has there same)))
          (λ (other : eq (key_of q) (key_of p) ≡ false).
          inl (λ is. let no : false ≡ true = sym other ∙ (ap (λ (z : Stored K V). eq (key_of z) (key_of p)) is ∙ classes.refl (key_of p)) in cc no))
          (cases_Bool (eq (key_of q) (key_of p))))
          (λ out. inr out)
          it_then

    -- each entry that the map had then was in a slot
    stood_in : (sheet : Sheet) → IsTable log t sheet → (k : K) (p : Stored K V) → replay eq (history_of r.at) k ≡ Some p → (x : ℕ)
        × (x < length sheet.slots) × Holds (taken_words.slot t x) p
    stood_in sheet table k p has =
        let root = taken_words.root in
        let had : taken_map k ≡ Some p = ap (λ (z : K → Option (Stored K V)). z k) (sym (replay_left Gs (exchanges_of r.at))) ∙ has in
        let place = root_holds Gs law taken_words taken_map keeps (λ inc. ap taken_words.next r.root ∙ r.last inc) k p had in
        let x = Gs.place k root place.0 in
        let held = held_word Gs k (taken_words.slot root x) (look Gs taken_words k root place.0) refl place.2 in
        let q = held.0 in
        let seen = held_seen Gs law k (taken_words.slot root x) q held.1 held.2 in
        let mine : taken_map k ≡ Some q = (means Gs law taken_words taken_map keeps k).found root place.0 q
        (root_reached Gs taken_words taken_map keeps k (subst (λ (n : ℕ). 0 < n) (sym r.root) r.some)) (λ blocks. refl) place.1 seen in
        let is : q ≡ p = cc (had, mine) in
        let size : Gs.size t ≡ length sheet.slots = (sizes (steps_of log) t table.0 table.1).0 ∙ ap (λ (s : Sheet). length s.slots) table.2 in
        let within : x < Gs.size t = subst (λ (u : ℕ). x < Gs.size u) r.root (law.within k root place.0 place.1) in
        let there : Holds (taken_words.slot t x) q = subst (λ (u : ℕ). Holds (taken_words.slot u x) q) r.root held.1 in
        (x, subst (λ (n : ℕ). x < n) size within, subst (λ (z : Stored K V). Holds (taken_words.slot t x) z) is there)

    -- and each that the map had before was taken out until now, or was in a slot then
    pub stood_or_out : (sheet : Sheet) → IsTable log t sheet → (k : K) (p : Stored K V) → replay eq (history_of old) k ≡ Some p
        → WasTakenOut (history_of old) (history_of log) p ⊎ ((x : ℕ) × (x < length sheet.slots) × Holds (taken_words.slot t x) p)
    stood_or_out sheet table k p has =
        let first = first_may eq input build write finish classes respects b r.at log l r.until in
        let legal = legal_changes Gs law start (λ k. None) (exchanges_of r.at) first (all_legal Gs law (exchanges_of r.at) first) in
        ⊎_elim (λ out. inl (out_later p (history_of old) (history_of r.at) (history_of log) (history_since r.at log r.until) out))
        (λ still. inr (stood_in sheet table k p still))
        (out_or_still eq classes (history_of old) (history_of r.at) (history_since old r.at r.since) legal k p has)

    -- once all its slots were scanned
    pub scanned_all : (sheet : Sheet) → IsTable log t sheet → (said : List (Stored K V × Bool)) → IsScannedUpTo r.at log t (length sheet.slots) said
        → IsRetained eq (history_of old) (history_of log) said
    scanned_all sheet table said scanned =
        let first = first_may eq input build write finish classes respects b r.at log l r.until in
        let legal = legal_changes Gs law start (λ k. None) (exchanges_of r.at) first (all_legal Gs law (exchanges_of r.at) first) in
        retained_earlier eq classes (history_of old) (history_of r.at) (history_of log) (history_since old r.at r.since) legal said
        (history_since r.at log r.until)
        (λ k p has. let at = stood_in sheet table k p has in scanned at.0 at.1 p at.2)

    module _ (upto : ℕ) (said : List (Stored K V × Bool)) (scanned : IsScannedUpTo r.at log t upto said) where
      -- the slot to which the scan has come is scanned
      scanned_next : (said' : List (Stored K V × Bool)) → IsScannedUpTo r.at log t upto said'
          → ((p : Stored K V) → Holds (taken_words.slot t upto) p → WasTakenOut (history_of r.at) (history_of log) p ⊎ IsLastAnswer said' p true)
          → IsScannedUpTo r.at log t (suc upto) said'
      scanned_next said' before here x lt p had =
          ⊎_elim
          (λ (lower : x < upto). before x lower p had)
          (λ (le : upto ≤ x). let is : x ≡ upto = omega (arith, lt, le) in here p (subst (λ (y : ℕ). Holds (taken_words.slot t y) p) is had))
          (cases_lt x upto)

      -- no pair is in it
      pub scanned_past : (word : ℕ) → word_in eq hashing b log (Slot t upto) ≡ word → has_pair (kind_of word) ≡ false → IsScannedUpTo r.at log t (suc upto) said
      scanned_past word stands none = scanned_next said scanned (λ p had. inl (past_out upto p had word stands none))

      -- the closure is called with its pair
      pub scanned_shown : (q : Stored K V) → HasIt ((state_of log).slot t upto) q → (stays : Bool) → IsScannedUpTo r.at log t upto ((q, stays) ∷ said)
      scanned_shown q there stays x lt p had =
          ⊎_elim
          (λ out. inl out)
          (λ kept. ⊎_elim (λ apart. inr (inr (apart, kept))) (λ out. inl out) (other_out x p had upto (λ is. omega (arith, lt, is)) q there))
          (scanned x lt p had)

      -- and the pair stays
      pub scanned_kept : (q : Stored K V) → HasIt ((state_of log).slot t upto) q → IsScannedUpTo r.at log t (suc upto) ((q, true) ∷ said)
      scanned_kept q there = scanned_next ((q, true) ∷ said) (scanned_shown q there true)
          (λ p had. ⊎_elim (λ is. inr (inl (is, refl))) (λ out. inl out) (named_out upto p had q (it_named ((state_of log).slot t upto) q there)))

      -- its pair was deleted
      pub scanned_buried : (q : Stored K V) → (state_of log).slot t upto ≡ Buried q → IsScannedUpTo r.at log t (suc upto) said
      scanned_buried q is = scanned_next said scanned (λ p had. inl (buried_out upto p had q is))

    module _ (x word : ℕ) (stands : word_in eq hashing b log (Slot t x) ≡ word) where
      -- the word that is there
      abbrev there : Word (Stored K V)
      there = (state_of log).slot t x

      of_kind : IsOfKind (kind_of word) there
      of_kind = subst (λ (n : ℕ). IsOfKind (kind_of n) there) stands (word_of_kind Gs Cs there)

      -- the pair that a word names was an entry of the map
      pub slot_had : has_pair (kind_of word) ≡ true → (p : Stored K V) × (named there ≡ Some p) × HadPair eq (history_of old) (history_of log) p
      slot_had some =
          let pair = pair_there (kind_of word) there of_kind some in
          let p = pair.0 in
          let same : (run since taken_words).slot t x ≡ there = ap (λ (s : State (Stored K V)). s.slot t x) ran in (
            p,
            ⊎_elim (λ e. ap named e) (⊎_elim (λ e. ap named e) (λ e. ap named e)) pair.1,
            had_in p
                (met_had Gs law taken_words taken_map keeps t r.root r.some r.last since may x there p same pair.1),
          )

      -- a live pair may be deleted
      pub may_bury : kind_of word ≡ kinds.Live → MayStep eq hashing b (Slot t x) (Some steps_of_kind.Bury) (grave_word word) None names.Nothing log
      may_bury live =
          let pair : IsOfKind kinds.Live there = subst (λ (k : Kind). IsOfKind k there) live of_kind in
          let p = pair.0 in
          let is : code Gs Cs (Live p) ≡ word = ap (code Gs Cs) (sym pair.1) ∙ stands in record {
            step = steps.Bury t x p;
            meant = record { asked = inl (p, pair.1, refl); with_it = refl };
            allowed = record { live = pair.1; reached = reached (key_of p) };
            written = subst (λ (n : ℕ). IsWritten Gs Cs (state_of log) (Slot t x) n (slot_put (state_of log) t x (Buried p)))
                (grave_code Gs Cs (hashed eq input build write finish classes respects b log l) p word is) (slot_written Gs Cs (state_of log) t x (Buried p));
          }

  -- it may be tried at any time
  pub can_bury : (old v : List (Event K V S)) (t : ℕ) → IsTaken b old v t → (x word : ℕ) → kind_of word ≡ kinds.Live
      → CanExchange eq hashing b (Slot t x) (Some steps_of_kind.Bury) word (grave_word word) None names.Nothing v
  can_bury old v t r x word live log pre l stands = may_bury old log l t (taken_later b old v log t r pre) x word stands live

  -- a word that was loaded
  pub met_loaded : (name : Book) (old v log : List (Event K V S)) (t : ℕ) → IsTaken b old v t → IsPrefix v log
      → (x word : ℕ) (pair : Option (Stored K V)) → IsSlot eq hashing b name t x word log pair → IsMet eq b name old log word pair
  met_loaded name old v log t r pre x word pair s = record {
    placed = s.placed;
    had = λ some.
        let one = slot_had old log s.lawful t (taken_later b old v log t r pre) x word s.is some in
        (one.0, sym s.names ∙ one.1, one.2);
  }

  -- a word that was found by an exchange
  pub met_found : (name : Book) (old v log : List (Event K V S)) (t : ℕ) → IsTaken b old v t → (x word new found : ℕ) (pair : Option (Stored K V))
      → IsSlotTried eq hashing b name t x (Some steps_of_kind.Bury) word new None names.Nothing v found log pair → IsMet eq b name old log found pair
  met_found name old v log t r x word new found pair s = record {
    placed = s.placed;
    had = λ some.
        let u = s.tried in
        let one = slot_had old u.before u.lawful t (taken_later b old v u.before t r u.since) x found u.is some in
        (one.0, sym s.names ∙ one.1, had_later eq old u.before log one.0 one.2 (goes_on u.after));
  }
    where
      goes_on : (MatchBool (found == word) ((e : _)
          × Rattle.papaya_map_book.specs.Plays.IsMeant eq hashing (Slot t x) (Some steps_of_kind.Bury) new None names.Nothing s.tried.before e
          × (log ≡ s.tried.before ++ Stepped e ∷ [])) (log ≡ s.tried.before)) → IsPrefix s.tried.before log
      goes_on h = by (found == word) h
        where
          by : (z : Bool) → MatchBool z ((e : _) × Rattle.papaya_map_book.specs.Plays.IsMeant eq hashing (Slot t x) (Some steps_of_kind.Bury) new None
              names.Nothing s.tried.before e × (log ≡ s.tried.before ++ Stepped e ∷ [])) (log ≡ s.tried.before) → IsPrefix s.tried.before log
          by true d = (Stepped d.0 ∷ [], sym d.2)
          by false d = ([], append-nil s.tried.before ∙ sym d)

  -- a word has the number of the pair that it names
  pub number_in : (log : List (Event K V S)) → Lawful log → (t x word : ℕ) → word_in eq hashing b log (Slot t x) ≡ word → (p : Stored K V)
      → named ((state_of log).slot t x) ≡ Some p → pair_of word ≡ p.index
  number_in log l t x word stands p names = ap pair_of (sym stands)
      ∙ (code_pair (G eq input build write finish classes respects b log) Cs (hashed eq input build write finish classes respects b log l).coding
      ((state_of log).slot t x) p names)

  module _ (name : Book) (v0 v log : List (Event K V S)) (t x word new found : ℕ) (pair0 pair : Option (Stored K V))
      (stood : IsSlot eq hashing b name t x word v0 pair0)
      (s : IsSlotTried eq hashing b name t x (Some steps_of_kind.Bury) word new None names.Nothing v found log pair) (is : (found == word) ≡ true)
      (shown gone : Stored K V) (one : pair0 ≡ Some shown) (other : pair ≡ Some gone) where
    -- the pair that was taken out has the number of the one that was there
    pub same_index : gone.index ≡ shown.index
    same_index =
        let u = s.tried in
        sym (number_in u.before u.lawful t x word (u.is ∙ eqb-true found word is) gone (s.names ∙ other))
        ∙ number_in v0 stood.lawful t x word stood.is shown (stood.names ∙ one)

    abbrev Made : Type 0
    Made = (e : Step K V) × IsMeant eq hashing (Slot t x) (Some steps_of_kind.Bury) new None names.Nothing s.tried.before e
        × (log ≡ s.tried.before ++ Stepped e ∷ [])

    by_step : Made → shown.value ≡ gone.value → IsBuried log t x shown
    by_step (e, meant, ends) value =
        ⊎_elim
        (λ asked.
        let same : asked.0 ≡ gone = let names = sym (ap named asked.1) ∙ (s.names ∙ other) in cc names in record {
          before = s.tried.before;
          step = e;
          is = ends;
          pair = asked.0;
          buries = asked.2;
          same = (ap (λ (z : Stored K V). z.index) same ∙ same_index, ap (λ (z : Stored K V). z.value) same ∙ sym value);
        })
        (λ copied. absurd copied)
        meant.asked

    -- so it was that one
    pub buried_by : shown.value ≡ gone.value → IsBuried log t x shown
    buried_by value = by_step (subst (λ (z : Bool). MatchBool z Made (log ≡ s.tried.before)) is s.tried.after) value

  -- if there is no root, the map has no entry, and each that it had was taken out
  pub retained_rootless : (old log : List (Event K V S)) → IsPrefix old log → Lawful log → (state_of log).root ≡ 0 → (said : List (Stored K V × Bool))
      → IsRetained eq (history_of old) (history_of log) said
  retained_rootless old log pre l zero said = retained_none eq classes (history_of old) (history_of log) (history_since old log pre)
      (history_legal eq input build write finish classes respects b log l) none said
    where
      none : (k : K) → replay eq (history_of log) k ≡ None
      none k =
          let g = G eq input build write finish classes respects b log in
          ap (λ (z : K → Option (Stored K V)). z k) (replay_left g (exchanges_of log))
          ∙ (means g (hashed eq input build write finish classes respects b log l).lawful (state_of log) (map_left g (exchanges_of log))
          (kept_map eq input build write finish classes respects b log log l ([], append-nil log)) k).no_root zero
