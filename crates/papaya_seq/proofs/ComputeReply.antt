-- The effect of a compute that has replied on the finite map is the one of its reply.
use Rattle.std.proofs.Common.{◌≡◌, inl, inr, ⊎_elim, IfOk, option_map, ℕ, Bool, Option, None, Some, Result, Ok, Err, refl, sym, ◌∙◌, ap, subst}
use denote.Ref.{Bor}
use Rattle.std.specs.Cmp.{IsEquivalence}
use Rattle.papaya_words.specs.declared.refused.Refused.{Refused}
use Rattle.papaya_words.specs.declared.refused.Refused.TheVariants.{RemoveNothing}
use Rattle.papaya_call.specs.declared.answers.Operation.{Operation}
use Rattle.papaya_call.specs.declared.answers.Operation.TheVariants as ops
use Rattle.papaya_call.specs.declared.call.Reply.{Reply}
use Rattle.papaya_call.specs.declared.call.Reply.TheVariants as replies
use Rattle.papaya_call.specs.declared.machine.State.TheVariants.{Ended}
use Rattle.papaya_call.specs.ChainMachine.{ask_of}
use Rattle.papaya_core_timeline.specs.Advances.{reply_in}
use Rattle.papaya_core_timeline.specs.Content.{content, map_in}
use Rattle.papaya_core_timeline.specs.Maps.{Does, IsMadeWith, IsUpdate, Same}
use Rattle.papaya_core_timeline.specs.Solo.{IsAnswered, IsNewIn}
use Rattle.papaya_core_store.specs.Store.{StoreState, Stored, pair_of}
use Rattle.papaya_core_store.specs.declared.pairs.Running.{Running}
use Rattle.papaya_core_timeline.proofs.SoloTimeline.{lookup_alike}
use Rattle.papaya_seq.specs.Computes.{ComputesBy, IsNew, Says}
use Rattle.papaya_seq.specs.Computing.{IsComputed, Replies}
use Rattle.papaya_seq.specs.Map.{IsWriteCause, IsWriteCauseAt, KeepsAndGrows, MapState}
use Rattle.papaya_words_keys.specs.declared.results.Computed.{Computed}
use Rattle.papaya_words_keys.specs.declared.results.Computed.TheVariants.{Inserted, Updated, Removed, Aborted}
use Rattle.papaya_seq.proofs.Answered.{logged_there}
use Rattle.papaya_seq.proofs.ComputeRun.{HasPair, IsAsked, IsComputing, IsDoing, IsFirstEnd, IsInsertEnd, IsLeft, IsToRemove, IsWaiting, ended_by, map_at}
use Rattle.papaya_seq.proofs.ComputeShown.{compute_of}
use Rattle.papaya_seq.proofs.ComputeStages.{IsRemoving}

-- the reply of a compute whose closure would have a pair removed
abbrev IsRemoveEnd : Reply → Type 0
IsRemoveEnd (replies.Removed n) = Unit {0}
IsRemoveEnd (replies.Refused refused) = refused ≡ RemoveNothing
IsRemoveEnd _ = ⊥

-- or whose closure aborts
abbrev IsAbortEnd : Reply → Type 0
IsAbortEnd (replies.Aborted n) = Unit {0}
IsAbortEnd _ = ⊥

-- and for each result of the closure
abbrev pub IsEnd : {K V S T : Type 0} → MapState K V S → Option (Stored K V) → Operation V T → StoreState K V S → Reply → Type 0
IsEnd s held (ops.Insert v) store reply = IsInsertEnd s held v store reply
IsEnd s held ops.Remove store reply = IsRemoveEnd reply
IsEnd s held (ops.Abort t) store reply = IsAbortEnd reply

-- a deletion ends with such a reply
removing_end : (reply : Reply) → IsRemoving (Ended reply) → IsRemoveEnd reply
removing_end (replies.Removed n) there = tt
removing_end reply there = absurd there

module _ {K V S A : Type 0} (s : MapState K V S) (store : StoreState K V S) (r : Running K V A) (reply : Reply)
    (told : reply_in (ask_of r.machine) ≡ Some reply) where
  -- a reply that is known
  told_so : (Is : Reply → Type 0) (known : Reply) → reply_in (ask_of r.machine) ≡ Some known → Is known → Is reply
  told_so Is known e there = let f : Some known ≡ Some reply = sym e ∙ told in let same : known ≡ reply = cc f in subst Is same there

  remove_end : (held : Option (Stored K V)) → IsToRemove held r.machine → IsRemoveEnd reply
  remove_end None e = told_so IsRemoveEnd (replies.Refused RemoveNothing) e refl
  remove_end (Some p) (phase, there) = removing_end reply (subst IsRemoving (ended_by r.machine reply told).1 there)

  -- so it has replied
  pub asked_end : {T : Type 0} (held : Option (Stored K V)) (o : Operation V T) → IsAsked s held o store r → IsEnd s held o store reply
  asked_end held (ops.Insert v) now = now.ends reply told
  asked_end held ops.Remove now = remove_end held now
  asked_end held (ops.Abort t) e = told_so IsAbortEnd (replies.Aborted 0) e tt

-- a reply that no compute gives
abbrev pub IsOther : Reply → Type 0
IsOther replies.Absent = Unit {0}
IsOther (replies.Found n) = Unit {0}
IsOther (replies.Occupied n) = Unit {0}
IsOther (replies.Kept n) = Unit {0}
IsOther replies.Done = Unit {0}
IsOther _ = ⊥

module _ {K V S : Type 0} (eq : K → K → Bool) (k : K) (s store : StoreState K V S) where
  absent_never : (went came : Option (Stored K V)) → Does (compute_of k) went replies.Absent came → ⊥
  absent_never None came does = does
  absent_never (Some p) came does = does

  found_never : (n : ℕ) (went came : Option (Stored K V)) → Does (compute_of k) went (replies.Found n) came → ⊥
  found_never n None came does = does
  found_never n (Some p) came does = does

  occupied_never : (n : ℕ) (went came : Option (Stored K V)) → Does (compute_of k) went (replies.Occupied n) came → ⊥
  occupied_never n None came does = does
  occupied_never n (Some p) came does = does

  kept_never : (n : ℕ) (went came : Option (Stored K V)) → Does (compute_of k) went (replies.Kept n) came → ⊥
  kept_never n None came does = does
  kept_never n (Some p) came does = does

  never : (reply : Reply) → IsOther reply → IsAnswered eq (compute_of k) (map_in eq s) reply (map_in eq store) → ⊥
  never replies.Absent other done = absent_never done.went done.came done.does
  never (replies.Found n) other done = found_never n done.went done.came done.does
  never (replies.Occupied n) other done = occupied_never n done.went done.came done.does
  never (replies.Kept n) other done = kept_never n done.went done.came done.does
  never replies.Done other done = let f : Some k ≡ None = done.0 in absurd cc
  never reply other done = other

module _ {K V S T : Type 0} (eq : K → K → Bool) (classes : IsEquivalence eq) (k : K) (said : Option (Stored K V) → Operation V T → Type 0)
    (s s' : MapState K V S) (keeps : KeepsAndGrows s s') where
  -- the result of a compute that did this
  abbrev Answers : Result (Computed ℕ T) Refused → Type 0
  Answers answer = ComputesBy eq k (λ p. p.number) said s answer s'

  -- a class that keeps its pair
  kept_update : (o : Option (Stored K V)) → map_in eq s.store k ≡ o → Same (map_in eq s.store) (map_in eq s'.store)
      → IsUpdate eq k o o (map_in eq s.store) (map_in eq s'.store)
  kept_update o here same = record {
    before = here;
    class = λ j e. same j ∙ lookup_alike eq classes (λ (p : Stored K V). p.key) (content eq s.store) j k e ∙ here;
    others = λ j e. same j;
  }

  -- the pair that was made is new, and has the value that the closure returned
  new_pair : (j : K) (v : V) (n : ℕ) (q : Stored K V) → IsMadeWith j n q → pair_of s.store n ≡ None → map_in eq s'.store k ≡ Some q
      → HasPair v s'.store n → IsNew j v s.store s'.store q
  new_pair j v n q (w, made) fresh here (p, logged, value) =
      let there : pair_of s'.store n ≡ Some q = logged_there eq classes s'.store k n q here made.number in
      let f : Some p ≡ Some q = sym logged ∙ there in
      let same : p ≡ q = cc f in
      record {
        key = made.key;
        value = sym (ap (λ x. x.value) same) ∙ value;
        fresh = subst (λ i. pair_of s.store i ≡ None) (sym made.number) fresh;
        logged = subst (λ i. pair_of s'.store i ≡ Some q) (sym made.number) there;
      }

  -- if the key was absent
  inserted : (v : V) (n : ℕ) (went came : Option (Stored K V)) → said (map_in eq s.store k) (ops.Insert v)
      → IsUpdate eq k went came (map_in eq s.store) (map_in eq s'.store) → Does (compute_of k) went (replies.Inserted n) came → pair_of s.store n ≡ None
      → HasPair v s'.store n → Answers (Ok (Inserted n))
  inserted v n None came says update (q, made, next) fresh paired =
      let here : map_in eq s'.store k ≡ Some q = update.class k (classes.refl k) ∙ next in (
        Ok (Inserted q),
        ap (λ i. Ok (Inserted i)) (sym made.1.number),
        inl (record {
          held = None;
          operation = ops.Insert v;
          answered = subst (λ o. said o (ops.Insert v)) update.before says;
          next = came;
          operates = (new_pair k v n q made fresh here paired, next);
          update = update;
          keeps = keeps;
        }),
      )
  inserted v n (Some p) came says update does fresh paired = absurd does

  -- if it had a pair
  replaced : (v : V) (m n : ℕ) (went came : Option (Stored K V)) → said (map_in eq s.store k) (ops.Insert v)
      → IsUpdate eq k went came (map_in eq s.store) (map_in eq s'.store) → Does (compute_of k) went (replies.Replaced m n) came
      → pair_of s.store n ≡ None → HasPair v s'.store n → Answers (Ok (Updated m n))
  replaced v m n (Some p) came says update (number, (q, made, next)) fresh paired =
      let here : map_in eq s'.store k ≡ Some q = update.class k (classes.refl k) ∙ next in (
        Ok (Updated p q),
        ap (λ i. Ok (Updated i n)) (sym number) ∙ ap (λ i. Ok (Updated p.number i)) (sym made.1.number),
        inl (record {
          held = Some p;
          operation = ops.Insert v;
          answered = subst (λ o. said o (ops.Insert v)) update.before says;
          next = came;
          operates = (refl, new_pair p.key v n q made fresh here paired, next);
          update = update;
          keeps = keeps;
        }),
      )
  replaced v m n None came says update does fresh paired = absurd does

  -- if the pair was removed
  removed : (n : ℕ) (went came : Option (Stored K V)) → said (map_in eq s.store k) ops.Remove
      → IsUpdate eq k went came (map_in eq s.store) (map_in eq s'.store) → Does (compute_of k) went (replies.Removed n) came → Answers (Ok (Removed n))
  removed n (Some p) came says update (number, next) = (
    Ok (Removed p),
    ap (λ i. Ok (Removed i)) (sym number),
    inl (record {
      held = Some p;
      operation = ops.Remove;
      answered = subst (λ o. said o ops.Remove) update.before says;
      next = came;
      operates = (refl, next);
      update = update;
      keeps = keeps;
    }),
  )
  removed n None came says update does = absurd does

  -- if its closure aborted
  aborted : (t u : T) (n : ℕ) (went came : Option (Stored K V)) → u ≡ t → said (map_in eq s.store k) (ops.Abort t)
      → IsUpdate eq k went came (map_in eq s.store) (map_in eq s'.store) → Does (compute_of k) went (replies.Aborted n) came → Answers (Ok (Aborted u))
  aborted t u n None came same says update next = (
    Ok (Aborted u),
    refl,
    inl (record {
      held = None;
      operation = ops.Abort t;
      answered = subst (λ o. said o (ops.Abort t)) update.before says;
      next = came;
      operates = (same, next);
      update = update;
      keeps = keeps;
    }),
  )
  aborted t u n (Some p) came same says update next = (
    Ok (Aborted u),
    refl,
    inl (record {
      held = Some p;
      operation = ops.Abort t;
      answered = subst (λ o. said o (ops.Abort t)) update.before says;
      next = came;
      operates = (same, next);
      update = update;
      keeps = keeps;
    }),
  )

  -- if an insertion was refused
  refused_insertion : (v : V) (refused : Refused) (o : Option (Stored K V)) → map_in eq s.store k ≡ o → said o (ops.Insert v)
      → Same (map_in eq s.store) (map_in eq s'.store) → IsWriteCauseAt s o refused s' → Answers (Err refused)
  refused_insertion v refused None here says same cause = (
    Err refused,
    refl,
    inl (record {
      held = None;
      operation = ops.Insert v;
      answered = says;
      next = None;
      operates = (cause, refl);
      update = kept_update None here same;
      keeps = keeps;
    }),
  )
  refused_insertion v refused (Some p) here says same cause = (
    Err refused,
    refl,
    inl (record {
      held = Some p;
      operation = ops.Insert v;
      answered = says;
      next = Some p;
      operates = (cause, refl);
      update = kept_update (Some p) here same;
      keeps = keeps;
    }),
  )

  -- and if there is nothing to remove
  refused_removal : (refused : Refused) (o : Option (Stored K V)) → map_in eq s.store k ≡ o → said o ops.Remove
      → Same (map_in eq s.store) (map_in eq s'.store) → refused ≡ RemoveNothing → Does (compute_of k) o (replies.Refused RemoveNothing) o → Answers (Err refused)
  refused_removal refused None here says same cause does = (
    Err refused,
    refl,
    inl (record {
      held = None;
      operation = ops.Remove;
      answered = says;
      next = None;
      operates = (cause, refl);
      update = kept_update None here same;
      keeps = keeps;
    }),
  )
  refused_removal refused (Some p) here says same cause does = absurd does

  -- the value with which the closure ended the call
  left_with : (t u : T) (left : Option T) → left ≡ Some t → left ≡ Some u → u ≡ t
  left_with t u left is e = let f : Some t ≡ Some u = sym is ∙ e in cc

  -- the map after the call
  then_is : s' ≡ map_at s s'.store
  then_is = ap (λ mode. record s' { mode = mode }) keeps.0.mode ∙ ap (λ initial. record { store = s'.store; mode = s.mode; initial = initial }) keeps.0.initial

  -- in each case
  pub replied_so : (o : Operation V T) (reply : Reply) (left : Option T) (answer : Result (Computed ℕ T) Refused) → said (map_in eq s.store k) o
      → IsEnd s (map_in eq s.store k) o s'.store reply → IsLeft o left → IsAnswered eq (compute_of k) (map_in eq s.store) reply (map_in eq s'.store)
      → IsNewIn s.store reply → IsComputed reply left answer → Answers answer
  replied_so (ops.Insert v) (replies.Inserted n) left answer says end kept done fresh is = subst Answers (sym is)
      (inserted v n done.went done.came says done.update done.does fresh end)
  replied_so (ops.Insert v) (replies.Replaced m n) left answer says end kept done fresh is = subst Answers (sym is)
      (replaced v m n done.went done.came says done.update done.does fresh end)
  replied_so (ops.Insert v) (replies.Refused refused) left answer says end kept done fresh is =
      subst Answers (sym is) (refused_insertion v refused (map_in eq s.store k) refl says done.0
      (subst (IsWriteCauseAt s (map_in eq s.store k) refused) (sym then_is) end))
  replied_so (ops.Insert v) (replies.Removed n) left answer says end kept done fresh is = absurd end
  replied_so (ops.Insert v) (replies.Aborted t) left answer says end kept done fresh is = absurd end
  replied_so (ops.Insert v) reply left answer says end kept done fresh is = absurd is
  replied_so ops.Remove (replies.Removed n) left answer says end kept done fresh is = subst Answers (sym is)
      (removed n done.went done.came says done.update done.does)
  replied_so ops.Remove (replies.Refused refused) left answer says end kept done fresh is = subst Answers (sym is)
      (refused_removal refused (map_in eq s.store k) refl says done.0 end (done.1 end))
  replied_so ops.Remove reply left answer says end kept done fresh is = absurd end
  replied_so (ops.Abort t) (replies.Aborted n) left answer says end kept done fresh (u, e, is) = subst Answers (sym is)
      (aborted t u n done.went done.came (left_with t u left kept e) says done.update done.does)
  replied_so (ops.Abort t) reply left answer says end kept done fresh is = absurd end

  -- if its closure was not called
  pub first_so : (reply : Reply) (left : Option T) (answer : Result (Computed ℕ T) Refused) → IsFirstEnd s s'.store reply
      → IsAnswered eq (compute_of k) (map_in eq s.store) reply (map_in eq s'.store) → IsComputed reply left answer → Answers answer
  first_so (replies.Refused refused) left answer end done is = subst Answers (sym is)
      (Err refused, refl, inr (end.0, (refused, refl, (subst (IsWriteCause s refused) (sym then_is) end.1, done.0, keeps))))
  first_so (replies.Inserted n) left answer end done is = absurd end
  first_so (replies.Replaced m n) left answer end done is = absurd end
  first_so (replies.Removed n) left answer end done is = absurd end
  first_so (replies.Aborted t) left answer end done is = absurd end
  first_so reply left answer end done is = absurd is

module _ {K V S T : Type 0} (eq : K → K → Bool) (k : K) (s : MapState K V S) (store : StoreState K V S) (reply : Reply) (left : Option T)
    (done : IsAnswered eq (compute_of k) (map_in eq s.store) reply (map_in eq store)) where
  -- it gives a reply that `computed` takes, unless that is a reply that no compute gives
  replies_or : (other : Reply) → (IsOther other → ⊥) → (IsAbortEnd other → (t : T) × (left ≡ Some t)) → Replies other left
  replies_or (replies.Inserted n) none abort = tt
  replies_or (replies.Replaced m n) none abort = tt
  replies_or (replies.Removed n) none abort = tt
  replies_or (replies.Refused refused) none abort = tt
  replies_or (replies.Aborted u) none abort = abort tt
  replies_or other none abort = none tt

  -- only a closure aborts, and its value is left
  insert_aborts : (held : Option (Stored K V)) (v : V) (other : Reply) → IsInsertEnd s held v store other → IsAbortEnd other → ⊥
  insert_aborts held v (replies.Aborted t) end abort = end
  insert_aborts held v other end abort = abort

  remove_aborts : (other : Reply) → IsRemoveEnd other → IsAbortEnd other → ⊥
  remove_aborts (replies.Aborted t) end abort = end
  remove_aborts other end abort = abort

  first_aborts : (other : Reply) → IsFirstEnd s store other → IsAbortEnd other → ⊥
  first_aborts (replies.Aborted t) end abort = end
  first_aborts other end abort = abort

  aborts_so : (held : Option (Stored K V)) (o : Operation V T) → IsEnd s held o store reply → IsLeft o left → IsAbortEnd reply → (t : T) × (left ≡ Some t)
  aborts_so held (ops.Insert v) end kept abort = absurd (insert_aborts held v reply end abort)
  aborts_so held ops.Remove end kept abort = absurd (remove_aborts reply end abort)
  aborts_so held (ops.Abort t) end kept abort = (t, kept)

  pub replies_so : (held : Option (Stored K V)) (o : Operation V T) → IsEnd s held o store reply → IsLeft o left → Replies reply left
  replies_so held o end kept = replies_or reply (λ other. never eq k s.store store reply other done) (aborts_so held o end kept)

  pub first_replies : IsFirstEnd s store reply → Replies reply left
  first_replies end = replies_or reply (λ other. never eq k s.store store reply other done) (λ abort. absurd (first_aborts reply end abort))

module _ {K V S A F T : Type 0} (eq : K → K → Bool) (classes : IsEquivalence eq) (hash : S → K → ℕ) (s s' : MapState K V S)
    (keeps : KeepsAndGrows s s') (k : K) (post : F → Option (Bor K × Bor V) → Operation V T → Type 0) (f : F) (r : Running K V A) (closure : Option F)
    (shown : Option ℕ) (left : Option T) (reply : Reply) (told : reply_in (ask_of r.machine) ≡ Some reply)
    (now : IsComputing eq hash s k post f s'.store r closure shown left)
    (done : IsAnswered eq (compute_of k) (map_in eq s.store) reply (map_in eq s'.store)) where
  -- so a compute that has replied
  pub over_replies : Replies reply left
  over_replies =
      ⊎_elim
      (λ (waits : IsWaiting {T = T} eq hash s k post f s'.store r closure shown). first_replies eq k s s'.store reply left done (waits.ends reply told))
      (λ (does : IsDoing eq hash s k post f s'.store r shown left).
      replies_so eq k s s'.store reply left done (map_in eq s.store k) does.operation
      (asked_end s s'.store r reply told (map_in eq s.store k) does.operation does.asked) does.kept)
      now.phase

  -- has the effect of its result
  pub over_computes : IsNewIn s.store reply → (answer : Result (Computed ℕ T) Refused) → IsComputed reply left answer
      → ComputesBy eq k (λ p. p.number) (Says (post f)) s answer s'
  over_computes fresh answer is =
      ⊎_elim
      (λ (waits : IsWaiting {T = T} eq hash s k post f s'.store r closure shown).
      first_so eq classes k (Says (post f)) s s' keeps reply left answer (waits.ends reply told) done is)
      (λ (does : IsDoing eq hash s k post f s'.store r shown left).
      replied_so eq classes k (Says (post f)) s s' keeps does.operation reply left answer does.said
      (asked_end s s'.store r reply told (map_in eq s.store k) does.operation does.asked) does.kept done fresh is)
      now.phase

  first_shown : (other : Reply) (answer : Result (Computed ℕ T) Refused) → IsFirstEnd s s'.store other → IsComputed other left answer
      → IfOk answer (λ _. shown ≡ option_map (λ p. p.number) (map_in eq s.store k))
  first_shown (replies.Refused refused) answer end is = subst (λ a. IfOk a (λ _. shown ≡ option_map (λ p. p.number) (map_in eq s.store k))) (sym is) tt
  first_shown (replies.Inserted n) answer end is = absurd end
  first_shown (replies.Replaced m n) answer end is = absurd end
  first_shown (replies.Removed n) answer end is = absurd end
  first_shown (replies.Aborted t) answer end is = absurd end
  first_shown other answer end is = absurd is

  shown_so : (answer : Result (Computed ℕ T) Refused) → shown ≡ option_map (λ p. p.number) (map_in eq s.store k)
      → IfOk answer (λ _. shown ≡ option_map (λ p. p.number) (map_in eq s.store k))
  shown_so (Ok done) is = is
  shown_so (Err refused) is = tt

  -- if its closure was called with the pair that the map held
  pub over_shown : (answer : Result (Computed ℕ T) Refused) → IsComputed reply left answer
      → IfOk answer (λ _. shown ≡ option_map (λ p. p.number) (map_in eq s.store k))
  over_shown answer is =
      ⊎_elim
      (λ (waits : IsWaiting {T = T} eq hash s k post f s'.store r closure shown). first_shown reply answer (waits.ends reply told) is)
      (λ (does : IsDoing eq hash s k post f s'.store r shown left). shown_so answer does.shown_is)
      now.phase
