-- An insertion that begins with a pair in the arena, of its own key or of one that it met; and one
-- that continues after another that left the map unchanged.
use Rattle.std.proofs.Common.{◌≡◌, inl, ⊎_elim, ℕ, Bool, true, false, Option, None, Some, List, [], ◌∷◌, append-nil, refl, sym, ap, ◌∙◌, subst}
use Rattle.logbook.specs.Pages.{Book}
use Rattle.papaya_call.specs.declared.call.Task.TheVariants.{Insert}
use Rattle.papaya_call.specs.declared.machine.State.TheVariants.{AtRoot}
use Rattle.papaya_call.specs.declared.made.Made.{Made}
use Rattle.papaya_call.specs.declared.made.Of.{Of}
use Rattle.papaya_call.specs.Made.{nothing_made}
use Rattle.papaya_call.specs.declared.chain.machine.Machine.{Machine}
use Rattle.papaya_call.specs.ChainMachine.{ask_of}
use Rattle.papaya_words_law.specs.Code.{Coding}
use Rattle.papaya_words_law.specs.Exchange.{Exchange, Setting, run, start}
use Rattle.papaya_words_law.specs.Later.{IsOfKey}
use Rattle.papaya_call_law.specs.Relies.{ReliesFill, ReliesOf}
use Rattle.papaya_call_law.specs.TrueAnswers.{IsOneOf, LoadedPairs}
use Rattle.papaya_map_book.specs.declared.keyed.Keyed as keyed
use Rattle.papaya_map_book.specs.declared.rule.entry.Begun.{Begun}
use Rattle.papaya_map_book.specs.declared.rule.entry.Event.{Event}
use Rattle.papaya_map_book.specs.declared.rule.entry.Named.TheVariants as names
use Rattle.papaya_map_book.specs.declared.window.Window.{Window}
use Rattle.papaya_map_book.specs.Logs.{Stored, exchanges_of}
use Rattle.papaya_map_book.specs.Rule.{IsLawfulLog, IsPlaced}
use Rattle.papaya_map_book.specs.Windows.{Does}
use Rattle.papaya_map_lookup.specs.Drivers.{own, past}
use Rattle.papaya_map_lookup.specs.History.{Makes, changes_by, key_of}
use Rattle.papaya_map_lookup.specs.Lookups.{coding_for, setting_for}
use Rattle.papaya_map_change.specs.declared.insertion.Insertion.{Insertion}
use Rattle.papaya_map_change.specs.Changing.{IsCalling}
use Rattle.papaya_map_change.specs.Inserting.{IsInserting}
use Rattle.papaya_map_change.specs.Seeking.{insertion_at}
use Rattle.papaya_map_change.specs.Writing.{HasKey, HasKeyAt, HasValue, held_value}
use Rattle.papaya_map_change.proofs.Changing.{begins as begins_calling}

module _ {K V S : Type 0} (eq : K → K → Bool) (hash : S → K → ℕ) (b : Begun K V S) (name : Book) (key : K) (q : Stored K V)
    (placed : IsPlaced b (Some name) (names.Pair q)) (class : eq key (key_of q) ≡ true) where
  own_pair : (p : Stored K V) → IsOneOf (q ∷ []) p → p ≡ q
  own_pair p one = ⊎_elim (λ is. is) (λ other. absurd other) one

  -- only this was made
  abbrev pub made_with : Option ℕ → Option Of → Made
  made_with own of = record (nothing_made b.limit) { own = own; of = of }

  abbrev g : List (Event K V S) → Setting (Option K) (Stored K V)
  g log = setting_for eq hash b (eq key) (hash b.hasher key) log

  abbrev c : Coding (Option K) (Stored K V)
  c = coding_for hash b.hasher (hash b.hasher key)

  abbrev loaded : LoadedPairs (Stored K V)
  loaded = record { last = None; made = q ∷ [] }

  -- its call, which has made the pair
  calls : (log : List (Event K V S)) → IsLawfulLog eq hash b log → (initial : ℕ) (own : Option ℕ) (of : Option Of)
      → ReliesFill (g log) c (exchanges_of log) [] (Some key) loaded own → ReliesOf (g log) c (exchanges_of log) [] (Some key) loaded of
      → IsCalling eq hash b name (eq key) (hash b.hasher key) (Some key) log log
      (insertion_at (hash b.hasher key) b.mode initial (made_with own of) AtRoot) None None None (q ∷ []) None None None
  calls log l initial own of own_is of_is = let r = begins_calling eq hash b name (eq key) (hash b.hasher key) (Some key) refl log l (Insert true)
      initial in record {
        lawful = l;
        seen = r.seen;
        since = [];
        is = append-nil (exchanges_of log);
        relies = record {
          cut = λ x. refl;
          call = record {
            hash = refl;
            mode = r.relies.call.mode;
            made = record {
              keys = λ p one. subst (λ (z : Stored K V). eq key (key_of z) ≡ true) (sym (own_pair p one)) class;
              limit = refl;
              number_is = r.relies.call.made.number_is;
              own_is = own_is;
              of_is = of_is;
              fill_is = tt;
              choice_is = tt;
            };
            stage = tt;
          };
          phase = tt;
        };
        number = 0;
        at_table = λ still. tt;
        holds_table = refl;
        last_placed = tt;
        kept_placed = tt;
        made_placed = λ p one. subst (λ (z : Stored K V). IsPlaced b (Some name) (names.Pair z)) (sym (own_pair p one)) placed;
        taken_placed = tt;
        changed = λ change e. absurd (cc e);
        brings = λ n e. absurd e;
        words = λ behind n chunks e. absurd (cc e);
        counts = tt;
      }

  module _ {H : Type 0} (log : List (Event K V S)) (x : Insertion K V S H) (l : IsLawfulLog eq hash b log) (initial : ℕ)
      (table : (x.writer.call.table ≡ None) × (x.writer.call.copier.fresh ≡ None))
      (pairs : (x.writer.call.copier.last ≡ None) × (x.writer.call.copier.kept ≡ None) × (x.writer.call.taken ≡ None) × (x.writer.call.put ≡ None))
      (has_key : HasKey b name key x.writer.key) (has_value : HasValue b name x.writer.value) (value_is : held_value x.writer.value ≡ Some q.value.value) where
    abbrev IsAt : Option ℕ → Option Of → Type 0
    IsAt own of = x.writer.call.machine ≡ insertion_at (hash b.hasher key) b.mode initial (made_with own of) AtRoot

    -- an insertion that has made the pair of its own key
    pub begins_logged : key_of q ≡ key → IsAt (Some q.index) None → x.own ≡ Some q → x.of ≡ None → IsInserting eq hash b name key q.value.value log log x
    begins_logged key_is machine own of = record {
      made = q ∷ [];
      writing = record {
        calling = rw (machine, table.0, table.1, pairs.0, pairs.1, pairs.2, pairs.3)
            (calls log l initial (Some q.index) None (q, inl refl, refl, ap (λ z. Some z) key_is) tt);
        keyed = has_key;
        valued = has_value;
        put_placed = rw pairs.3 tt;
      };
      task_is = ap (λ (z : Machine). z.call.task) machine;
      value_is = λ v e. let f = sym value_is ∙ e in let one : q.value.value ≡ v = cc f in sym one;
      own_is = record {
        there = λ n e. let f = sym (ap (λ (z : Machine). z.call.made.own) machine) ∙ e in let one : q.index ≡ n = cc f in (q, own, one);
        is = λ p e. let f = sym own ∙ e in let one : q ≡ p = cc f in
            subst (λ (z : Stored K V). IsOneOf (q ∷ []) z × (key_of z ≡ key) × (z.value.value ≡ q.value.value)) one (inl refl, key_is, refl);
      };
      of_is = record {
        there = λ new e. let f = sym (ap (λ (z : Machine). z.call.made.of) machine) ∙ e in
            absurd (cc f);
        is = λ p e. let f = sym of ∙ e in absurd (cc f);
      };
      put_is = λ p e. let f = sym pairs.3 ∙ e in absurd (cc f);
      refuses = λ cause e. let f = sym (ap ask_of machine) ∙ e in absurd (cc f);
      crowded = λ e. let f = sym (ap ask_of machine) ∙ e in absurd (cc f);
      spent = λ e. let f = sym (ap ask_of machine) ∙ e in absurd (cc f);
    }

    -- and one that has made it of the key in a slot
    pub begins_met : (t i : ℕ) → HasKeyAt log t i (key_of q) → IsAt None (Some (record { pair = q.index; table = t; index = i })) → x.own ≡ None
        → x.of ≡ Some q → IsInserting eq hash b name key q.value.value log log x
    begins_met t i met machine own of = record {
      made = q ∷ [];
      writing = record {
        calling = rw (machine, table.0, table.1, pairs.0, pairs.1, pairs.2, pairs.3)
            (calls log l initial None (Some (record { pair = q.index; table = t; index = i })) tt (
              q,
              inl refl,
              refl,
              subst (λ (es : List (Exchange (Stored K V))). IsOfKey (g log) ((run es start).slot t i) (Some (key_of q)))
                  (sym (append-nil (exchanges_of log))) (met.0, met.1, ap (λ z. Some z) met.2),
            ));
        keyed = has_key;
        valued = has_value;
        put_placed = rw pairs.3 tt;
      };
      task_is = ap (λ (z : Machine). z.call.task) machine;
      value_is = λ v e. let f = sym value_is ∙ e in let one : q.value.value ≡ v = cc f in sym one;
      own_is = record {
        there = λ n e. let f = sym (ap (λ (z : Machine). z.call.made.own) machine) ∙ e in
            absurd (cc f);
        is = λ p e. let f = sym own ∙ e in absurd (cc f);
      };
      of_is = record {
        there = λ new e.
            let f = sym (ap (λ (z : Machine). z.call.made.of) machine) ∙ e in let one : record { pair = q.index; table = t; index = i } ≡ new = cc f in
            (q, of, ap (λ (z : Of). z.pair) one, subst (λ (z : Of). HasKeyAt log z.table z.index (key_of q)) one met);
        is = λ p e. let f = sym of ∙ e in let one : q ≡ p = cc f in
            subst (λ (z : Stored K V). IsOneOf (q ∷ []) z × (z.value.value ≡ q.value.value)) one (inl refl, refl);
      };
      put_is = λ p e. let f = sym pairs.3 ∙ e in absurd (cc f);
      refuses = λ cause e. let f = sym (ap ask_of machine) ∙ e in absurd (cc f);
      crowded = λ e. let f = sym (ap ask_of machine) ∙ e in absurd (cc f);
      spent = λ e. let f = sym (ap ask_of machine) ∙ e in absurd (cc f);
    }

module _ {K V S H : Type 0} {d : keyed.Ghosts S K H} where
  -- changes made after a window without own steps are all the changes made
  pub makes_since : (changed : Bool) (a w w' : Window K V S H d) → Does false a w → Makes changed (own w) (own w') (past w')
      → Makes changed (own a) (own w') (past w')
  makes_since changed a w w' none m = subst (λ (z : List _). Makes changed (changes_by z) (own w') (past w')) (none ∙ append-nil a.own.done) m

  -- no change is made if nothing is done
  pub makes_none : (a w : Window K V S H d) → Does false a w → Makes false (own a) (own w) (past w)
  makes_none a w none = ap changes_by (none ∙ append-nil a.own.done) ∙ sym (append-nil (own a))
