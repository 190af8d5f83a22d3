-- The result of a call of a map for one caller, beside the core's call that was made alone.
use Rattle.std.proofs.Common.{◌≡◌, ℕ, Bool, Result, Ok, Err, MatchResult, sym, ◌∙◌, ap}
use Rattle.papaya_words.specs.declared.refused.Refused.{Refused}
use Rattle.papaya_call.specs.declared.call.Call.{Call}
use Rattle.papaya_call.specs.declared.call.Call.TheVariants.{RemoveIf}
use Rattle.papaya_call.specs.declared.call.Reply.{Reply}
use Rattle.papaya_call.specs.declared.call.Reply.TheVariants.{Done as Reply_done, Refused as Reply_refused}
use Rattle.papaya_words_keys.specs.declared.results.Computed.{Computed}
use Rattle.papaya_words_keys.specs.declared.results.Computed.TheVariants.{Inserted, Updated, Removed, Aborted}
use Rattle.papaya_seq.specs.Computing.{reply_of}
use Rattle.papaya_seq.specs.MadeAlone.{IsDoneAlone, IsMadeAlone, IsRemovalAlone, IsRemovalMade, IsRepliedAlone}
use Rattle.papaya_seq.specs.Map.{MapState}

-- a compute whose reply is a refusal was refused for that cause
refused_as : (computed : Result (Computed ℕ ℕ) Refused) (refused : Refused) → reply_of computed ≡ Reply_refused refused → computed ≡ Err refused
refused_as (Ok (Inserted n)) refused e = absurd (cc e)
refused_as (Ok (Updated m n)) refused e = absurd (cc e)
refused_as (Ok (Removed n)) refused e = absurd (cc e)
refused_as (Ok (Aborted t)) refused e = absurd (cc e)
refused_as (Err other) refused e = let same : other ≡ refused = let f : Reply_refused other ≡ Reply_refused refused = e in cc f in ap Err same

module _ {K V S : Type 0} (eq : K → K → Bool) (hash : S → K → ℕ) (s s' : MapState K V S) (call : Call K V (Unit {0})) where
  -- it was done
  pub made_done : {Q : Type 0} (reply : Reply) → IsMadeAlone eq hash s call reply s' → (done : Q) → IsDoneAlone eq hash s call (Ok done) s'
  made_done reply made done = record { reply = reply; alone = made; refused = λ refused e. let f : Ok done ≡ Err refused = e in absurd cc }

  -- it was refused
  pub made_refused : {Q : Type 0} (reply : Reply) → IsMadeAlone eq hash s call reply s' → (refused : Refused) → reply ≡ Reply_refused refused
      → IsDoneAlone eq hash {R = Q} s call (Err refused) s'
  made_refused reply made refused is = record {
    reply = reply;
    alone = made;
    refused = λ other e. let same : refused ≡ other = let f : Err refused ≡ Err other = e in cc f in is ∙ ap Reply_refused same;
  }

  module _ {R : Type 0} (result : Result R Refused) (made : IsDoneAlone eq hash s call result s') where
    -- an effect in another form
    pub alone_done : {Q : Type 0} (done : Q) → IsDoneAlone eq hash s call (Ok done) s'
    alone_done done = made_done made.reply made.alone done

    pub alone_refused : {Q : Type 0} (refused : Refused) → result ≡ Err refused → IsDoneAlone eq hash {R = Q} s call (Err refused) s'
    alone_refused refused is = made_refused made.reply made.alone refused (made.refused refused is)

module _ {K V S : Type 0} (eq : K → K → Bool) (hash : S → K → ℕ) (s s' : MapState K V S) (call : Call K V (Unit {0})) where
  -- a core's call has the reply that is given
  pub made_replied : (reply : Reply) → IsMadeAlone eq hash s call reply s' → IsRepliedAlone eq hash s call reply s'
  made_replied reply made = record { told = reply; alone = made; refused = λ refused e. e }

  -- an effect, or a refusal, as a reply
  pub done_replied : (done : Result (Unit {0}) Refused) → IsDoneAlone eq hash s call done s' → (reply : Reply)
      → MatchResult done (λ _. reply ≡ Reply_done) (λ e. reply ≡ Reply_refused e) → IsRepliedAlone eq hash s call reply s'
  done_replied (Ok u) made reply is = record {
    told = made.reply;
    alone = made.alone;
    refused = λ refused e. let f : Reply_done ≡ Reply_refused refused = sym is ∙ e in absurd cc;
  }
  done_replied (Err refused) made reply is = record {
    told = made.reply;
    alone = made.alone;
    refused = λ other e.
        let f : Reply_refused refused ≡ Reply_refused other = sym is ∙ e in
        let same : refused ≡ other = cc in
        made.refused other (ap Err same);
  }

  -- the same for the effect of a compute
  pub computed_replied : (computed : Result (Computed ℕ ℕ) Refused) → IsDoneAlone eq hash s call computed s' → (reply : Reply)
      → reply ≡ reply_of computed → IsRepliedAlone eq hash s call reply s'
  computed_replied computed made reply is = record {
    told = made.reply;
    alone = made.alone;
    refused = λ refused e. made.refused refused (refused_as computed refused (sym is ∙ e));
  }

module _ {K V S : Type 0} (eq : K → K → Bool) (hash : S → K → ℕ) (matches : K → Bool) (s s' : MapState K V S) where
  -- the same for a removal
  pub removal_done : {Q : Type 0} (reply : Reply) → IsRemovalMade eq hash matches s reply s' → (done : Q) → IsRemovalAlone eq hash matches s (Ok done) s'
  removal_done reply made done = λ k matched. made_done eq hash s s' (RemoveIf k tt) reply (made k matched) done

  pub removal_refused : {Q : Type 0} (reply : Reply) → IsRemovalMade eq hash matches s reply s' → (refused : Refused) → reply ≡ Reply_refused refused
      → IsRemovalAlone eq hash {R = Q} matches s (Err refused) s'
  removal_refused reply made refused is = λ k matched. made_refused eq hash s s' (RemoveIf k tt) reply (made k matched) refused is

  module _ {R : Type 0} (result : Result R Refused) (made : IsRemovalAlone eq hash matches s result s') where
    pub removal_as_done : {Q : Type 0} (done : Q) → IsRemovalAlone eq hash matches s (Ok done) s'
    removal_as_done done = λ k matched. alone_done eq hash s s' (RemoveIf k tt) result (made k matched) done

    pub removal_as_refused : {Q : Type 0} (refused : Refused) → result ≡ Err refused → IsRemovalAlone eq hash {R = Q} matches s (Err refused) s'
    removal_as_refused refused is = λ k matched. alone_refused eq hash s s' (RemoveIf k tt) result (made k matched) refused is
