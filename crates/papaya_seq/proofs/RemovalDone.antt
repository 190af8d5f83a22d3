-- The map after a removal that has replied.
use Rattle.std.proofs.Common.{◌≡◌, ⊎_elim, ◌⊎◌, inl, inr, ℕ, Bool, true, List, ◌∙◌, ap, refl}
use Rattle.std.proofs.lemmas.Bool.{cases_eq}
use denote.Ref.{Bor}
use Rattle.std.specs.Cmp.{IsEquivalence}
use Rattle.std.specs.Fn.{Mut}
use Rattle.papaya_words.specs.declared.refused.Refused.{Refused}
use Rattle.papaya_call.specs.declared.ask.Ask.TheVariants.{Done as Ask_done}
use Rattle.papaya_call.specs.declared.call.Reply.{Reply}
use Rattle.papaya_call.specs.declared.call.Reply.TheVariants.{Refused as Reply_refused}
use Rattle.papaya_call.specs.declared.chain.ask.Ask.TheVariants as asks
use Rattle.papaya_call.specs.declared.chain.machine.Machine.{Machine}
use Rattle.papaya_call.specs.ChainMachine.{ask_of}
use Rattle.papaya_words_keys.specs.Hashes.{hash_of}
use Rattle.papaya_core_store.specs.Store.{StoreState}
use Rattle.papaya_core_timeline.specs.Advances.{reply_in}
use Rattle.papaya_seq.specs.MadeAlone.{IsRemovalMade}
use Rattle.papaya_seq.specs.Map.{IsLawfulMap, IsResizing, KeepsRemoving, MapState, next_of}
use Rattle.papaya_seq.specs.Removes.{IsCalledFor, IsRemovalBy, Judges}
use Rattle.papaya_seq.specs.Resizes.{IsCopyCause}
use Rattle.papaya_seq.proofs.Alone.{map_answered, map_lawful}
use Rattle.papaya_seq.proofs.RemovalReply.{called_for, called_none, removal_done, removal_none}
use Rattle.papaya_seq.proofs.RemovalRun.{matched_judged, matched_over}
use Rattle.papaya_seq.proofs.RemovalWays.{HasMatch, HasNoMatch, IsQuery, IsUnderWay, key_by, key_of, slots_kept, unrefused}
use Rattle.papaya_seq.proofs.Removing.{log_kept, removal_by}
use Rattle.papaya_seq.proofs.SeekLaw.{seek_ends, seek_lawful}
use Rattle.papaya_seq.proofs.Turns.{IsOver}

-- its effect; it is refused only for a cause; and the parts that stay
pub record RemovalDone {K V S F : Type 0} (g : Mut F (Bor K × (Bor V × Unit {0})) Bool) (eq : K → K → Bool) (hash : S → K → ℕ) (matches : K → Bool)
    (map : MapState K V S) (agrees f : F) (reply : Reply) (s' : MapState K V S) : Type 0 where
  pub whole : IsRemovalBy eq matches (Judges g agrees) map.store reply s'.store
  pub called : IsCalledFor g map.store reply agrees f
  pub cause : (refused : Refused) → reply ≡ Reply_refused refused → IsCopyCause map refused s'
  pub keeps : KeepsRemoving map s'
  pub alone : IsRemovalMade eq hash matches map reply s'
  pub orderly : IsLawfulMap eq (hash s'.store.hasher) s'.store s'.mode s'.initial

module _ {K V S H F : Type 0} (g : Mut F (Bor K × (Bor V × Unit {0})) Bool) (eq : K → K → Bool) (input : K → List (List ℕ)) (build : S → H)
    (write : H → List ℕ → H) (finish : H → ℕ) (classes : IsEquivalence eq) (respects : (x y : K) → eq x y ≡ true → input x ≡ input y)
    (matches : K → Bool) (hashed : ℕ) (map : MapState K V S) (agrees : F) (query : IsQuery g eq (hash_of input build write finish) matches hashed map agrees)
    (later : StoreState K V S) (f : F) (m : Machine) (now : IsUnderWay g eq (hash_of input build write finish) matches hashed map agrees later f m)
    (reply : Reply) (ends : ask_of m ≡ asks.Call (Ask_done reply)) where
  abbrev hash : S → K → ℕ
  hash = hash_of input build write finish

  -- if a pair matches, the removal is that by the pair's key, made alone
  made : (has : HasMatch g eq hash matches hashed map agrees later f m) → IsOver eq hash map (removal_by has.one.pair.key) later reply
  made has = matched_over g eq hash matches hashed map agrees has.one.pair.key (key_of g eq hash matches hashed map agrees query has.one) later f m
      has.run reply ends

  -- if it is refused, pairs were being moved
  moving : (refused : Refused) → ask_of m ≡ asks.Call (Ask_done (Reply_refused refused)) → IsResizing map
  moving refused told = by_next (cases_eq (next_of map.store) 0)
    where
      by_next : ((next_of map.store ≡ 0) ⊎ (next_of map.store ≡ 0 → ⊥)) → IsResizing map
      by_next (inl single) = absurd (unrefused g eq hash matches hashed map agrees later f m now query single refused told)
      by_next (inr moves) = moves

  pub removal_finished : RemovalDone g eq hash matches map agrees f reply (record map { store = later })
  removal_finished = record {
    whole = record {
      removal = ⊎_elim
          (λ (has : HasMatch g eq hash matches hashed map agrees later f m).
          removal_done g eq classes matches has.one.pair.key (query.alike has.one.pair.key has.one.matched) map.store later agrees f reply
          (map_answered eq input build write finish classes respects map (removal_by has.one.pair.key) reply later query.lawful (made has))
          (matched_judged g eq hash matches hashed map agrees has.one.pair.key (key_of g eq hash matches hashed map agrees query has.one) later f m
          has.run reply ends))
          (λ (lacks : HasNoMatch g eq hash matches hashed map agrees later f m).
          removal_none eq matches (Judges g agrees) map.store later reply lacks.none
          (seek_ends eq hash g matches map hashed later m lacks.seeking reply (ap reply_in ends)) lacks.seeking.same)
          (now.way query);
    };
    called = ⊎_elim
        (λ (has : HasMatch g eq hash matches hashed map agrees later f m).
        called_for g matches map.store agrees f reply (matched_judged g eq hash matches hashed map agrees has.one.pair.key
        (key_of g eq hash matches hashed map agrees query has.one) later f m has.run reply ends))
        (λ (lacks : HasNoMatch g eq hash matches hashed map agrees later f m).
        called_none g map.store agrees f reply (seek_ends eq hash g matches map hashed later m lacks.seeking reply (ap reply_in ends)) lacks.uncalled)
        (now.way query);
    cause = λ refused is. let told = ends ∙ ap (λ r. asks.Call (Ask_done r)) is in (moving refused told, now.refusal query refused (ap reply_in told));
    keeps = (
      record { hasher = now.log.hasher; mode = refl; initial = refl; pairs = λ n p e. log_kept map.store later now.log n ∙ e },
      λ single. slots_kept g eq hash matches hashed map agrees later f m now query single,
      ⊎_elim
          (λ (has : HasMatch g eq hash matches hashed map agrees later f m). has.run.came.long.made)
          (λ (lacks : HasNoMatch g eq hash matches hashed map agrees later f m). lacks.seeking.long.made)
          (now.way query),
    );
    alone = λ k matched. record {
      runs = (matched_over g eq hash matches hashed map agrees k (key_by g eq hash matches hashed map agrees query k matched) later f m
          (now.keyed query k matched) reply ends).ran;
    };
    orderly = ⊎_elim
        (λ (has : HasMatch g eq hash matches hashed map agrees later f m).
        map_lawful eq input build write finish classes respects map (removal_by has.one.pair.key) reply later query.lawful (made has))
        (λ (lacks : HasNoMatch g eq hash matches hashed map agrees later f m).
        seek_lawful eq hash map hashed query.keys query.fits query.lawful later m lacks.seeking)
        (now.way query);
  }
