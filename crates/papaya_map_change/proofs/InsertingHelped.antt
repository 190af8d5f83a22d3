-- An insertion that was set aside is the same after the copy: it makes no other pair and puts in no other.
use Rattle.std.proofs.Common.{◌≡◌, ℕ, Bool, true, Some, List, sym, ◌∙◌, subst}
use Rattle.std.specs.Cmp.{IsEquivalence}
use mathlib.Core.List.{IsPrefix}
use Rattle.logbook.specs.Pages.{Book}
use Rattle.papaya_words.specs.declared.refused.Refused.TheVariants.{Limit}
use Rattle.papaya_call.specs.declared.ask.Ask.TheVariants.{Done}
use Rattle.papaya_call.specs.declared.call.Reply.TheVariants.{Refused}
use Rattle.papaya_call.specs.declared.chain.machine.Phase.TheVariants.{Calling}
use Rattle.papaya_call_law.proofs.Names.{call_asks}
use Rattle.papaya_map_book.specs.declared.rule.entry.Begun.{Begun}
use Rattle.papaya_map_book.specs.declared.rule.entry.Event.{Event}
use Rattle.papaya_map_book.specs.Hashes.{hash_of}
use Rattle.papaya_map_book.specs.Limits.{IsSpent, tables_of}
use Rattle.papaya_map_book.specs.Logs.{pair_named}
use Rattle.papaya_map_book.specs.Rule.{IsPlaced}
use Rattle.papaya_map_book.proofs.Lengths.{tables_since}
use Rattle.papaya_map_lookup.specs.History.{key_of}
use Rattle.papaya_map_lookup.proofs.KeptKeys.{key_at_stays}
use Rattle.papaya_map_change.specs.declared.driver.Driver.{Driver}
use Rattle.papaya_map_change.specs.declared.insertion.Insertion.{Insertion}
use Rattle.papaya_map_change.specs.Changing.{IsDriven}
use Rattle.papaya_map_change.specs.Helping.{HasHelped}
use Rattle.papaya_map_change.specs.Inserting.{HasOf, HasOwn, IsInserting}
use Rattle.papaya_map_change.proofs.Helped.{helped_keeps, limit_kept, room_kept, spent_kept}

module _ {K V S H : Type 0} (eq : K → K → Bool) (input : K → List (List ℕ)) (build : S → H) (write : H → List ℕ → H) (finish : H → ℕ)
    (classes : IsEquivalence eq) (respects : (x y : K) → eq x y ≡ true → input x ≡ input y)
    (b : Begun K V S) (name : Book) (key : K) (value : V) (begun log log' : List (Event K V S)) (pre : IsPrefix log log') (x : Insertion K V S H)
    (r : IsInserting eq (hash_of input build write finish) b name key value begun log x) (c : Driver K V S H) where
  abbrev hash : S → K → ℕ
  hash = hash_of input build write finish

  pub inserting_helped : IsDriven eq hash b name (eq key) (hash b.hasher key) (Some key) begun log' r.made c → c.put ≡ x.writer.call.put
      → c.machine.phase ≡ Calling → (x.writer.call.machine.phase ≡ Calling → (c ≡ x.writer.call) × (log' ≡ log))
      → HasHelped x.writer.call.machine c.machine (tables_of log') c.copier.given.done
      → IsInserting eq hash b name key value begun log' (record x { writer = record x.writer { call = c } })
  inserting_helped driven put calling still helped =
      let m = x.writer.call.machine in
      let k = helped_keeps m c.machine (tables_of log') c.copier.given.done helped in
      let same = λ (e : m.phase ≡ Calling). (still e).0 in
      record {
        made = r.made;
        writing = record {
          calling = driven;
          keyed = r.writing.keyed;
          valued = r.writing.valued;
          put_placed = subst (λ o. IsPlaced b (Some name) (pair_named o)) (sym put) r.writing.put_placed;
        };
        task_is = k.task ∙ r.task_is;
        value_is = r.value_is;
        own_is = subst (λ z. HasOwn key value r.made z.own x.own) (sym k.made) r.own_is;
        of_is = subst (λ z. HasOf value r.made log' z.of x.of) (sym k.made) (record {
          there = λ new e. let h = r.of_is.there new e in
              (h.0, h.1, h.2, key_at_stays eq input build write finish classes respects b log log' driven.lawful pre new.table new.index (key_of h.0) h.3);
          is = r.of_is.is;
        });
        put_is = λ q e. r.put_is q (sym put ∙ e);
        refuses = limit_kept x.writer.call c (tables_of log') calling same helped r.refuses;
        crowded = room_kept x.writer.call c (tables_of log') calling same helped (tables_of log) (tables_since log log' pre) r.crowded;
        spent = spent_kept x.writer.call c (tables_of log') calling same helped (IsSpent b.limit log')
            (λ e. subst (IsSpent b.limit) (sym (still (call_asks m (Done (Refused Limit)) e).0).1) (r.spent e));
      }
