-- A compute in a list of calls.
use Rattle.std.proofs.Common.{◌≡◌, ℕ, Bool, Option, None, Some, Result, Ok, Err, option_map, ⊎_elim, inl, inr, refl, sym, ◌∙◌, ap, subst}
use denote.Ref.{Bor}
use Rattle.std.specs.Cmp.{IsEquivalence}
use Rattle.papaya_words.specs.declared.refused.Refused.{Refused}
use Rattle.papaya_words.specs.declared.refused.Refused.TheVariants.{Memory, Capacity, Limit, RemoveNothing}
use Rattle.papaya_call.specs.Answers.{Says as Answers_say}
use Rattle.papaya_call.specs.declared.answers.Operation.{Operation}
use Rattle.papaya_call.specs.declared.answers.Operation.TheVariants as ops
use Rattle.papaya_call.specs.declared.call.Call.TheVariants.{Compute}
use Rattle.papaya_call.specs.declared.call.Reply.{Reply}
use Rattle.papaya_call.specs.declared.call.Reply.TheVariants as replies
use Rattle.papaya_core_timeline.specs.Content.{map_in}
use Rattle.papaya_core_timeline.specs.Maps.{Does, IsUpdate}
use Rattle.papaya_core_store.specs.Store.{Stored}
use Rattle.papaya_seq.specs.Calls.{Answers, IsCalled, IsOperated}
use Rattle.papaya_seq.specs.Computes.{CallsOnce, ComputesBy, IsRefusedFirst, Operates, Says, answer_map}
use Rattle.papaya_seq.specs.Computing.{reply_of}
use Rattle.papaya_seq.specs.Map.{IsResizing, IsWriteCause, IsWriteCauseAt, KeepsAndGrows, MapState, deref_pair}
use Rattle.papaya_words_keys.specs.declared.results.Computed.{Computed}
use Rattle.papaya_words_keys.specs.declared.results.Computed.TheVariants.{Inserted, Updated, Removed, Aborted}
use Rattle.papaya_seq.proofs.Answered.{update_leaves, write_cause}

-- the reply of a compute is none of a call that resizes the map
undone : (answer : Result (Computed ℕ ℕ) Refused) → reply_of answer ≡ replies.Done → ⊥
undone (Ok (Inserted n)) e = cc e
undone (Ok (Updated m n)) e = cc e
undone (Ok (Removed n)) e = cc e
undone (Ok (Aborted t)) e = cc e
undone (Err refused) e = cc e

module _ {K V S A : Type 0} (eq : K → K → Bool) (classes : IsEquivalence eq) (s s' : MapState K V S) (k : K) (a : A) (says : Answers_say K V A) where
  -- the reply of a compute that did this
  abbrev Called : Reply → Type 0
  Called reply = IsCalled eq says s (Compute k a) reply s'

  -- such a cause is not the absence of a pair to be removed
  caused : (refused : Refused) → IsWriteCause s refused s' → refused ≡ RemoveNothing → ⊥
  caused refused (inl e) f = let g : Memory ≡ RemoveNothing = sym e ∙ f in cc
  caused refused (inr (inl (e, full))) f = let g : Capacity ≡ RemoveNothing = sym e ∙ f in cc
  caused refused (inr (inr (e, spent))) f = let g : Limit ≡ RemoveNothing = sym e ∙ f in cc

  -- the cause holds for any pair of the key's class, while pairs are being moved
  caused_moving : (held : Option (Stored K V)) (refused : Refused) → IsResizing s → IsWriteCause s refused s' → IsWriteCauseAt s held refused s'
  caused_moving held refused resizing (inl e) = inl e
  caused_moving held refused resizing (inr (inl (e, inl full))) = inr (inl (e, inl full))
  caused_moving held refused resizing (inr (inl (e, inr none))) = inr (inl (e, inr (inr resizing, none)))
  caused_moving held refused resizing (inr (inr spent)) = inr (inr spent)

  -- and the closure need not have returned then
  moving_said : (held : Option (Stored K V)) (refused : Refused) → IsResizing s → IsWriteCause s refused s'
      → IsOperated says a s held s'.store (replies.Refused refused)
  moving_said held refused resizing (inl e) = subst (λ r. IsOperated says a s held s'.store (replies.Refused r)) (sym e) (inr resizing)
  moving_said held refused resizing (inr (inl (e, full))) = subst (λ r. IsOperated says a s held s'.store (replies.Refused r)) (sym e) (inr resizing)
  moving_said held refused resizing (inr (inr (e, spent))) = subst (λ r. IsOperated says a s held s'.store (replies.Refused r)) (sym e) (inr resizing)

  -- or the closure returned a value
  insertion_said : (held : Option (Stored K V)) (v : V) (refused : Refused) → IsWriteCause s refused s' → Answers says a held (ops.Insert v)
      → IsOperated says a s held s'.store (replies.Refused refused)
  insertion_said held v refused (inl e) answers = subst (λ r. IsOperated says a s held s'.store (replies.Refused r)) (sym e) (inl (v, answers))
  insertion_said held v refused (inr (inl (e, full))) answers = subst (λ r. IsOperated says a s held s'.store (replies.Refused r)) (sym e) (inl (v, answers))
  insertion_said held v refused (inr (inr (e, spent))) answers = subst (λ r. IsOperated says a s held s'.store (replies.Refused r)) (sym e) (inl (v, answers))

  -- in each case
  called : KeepsAndGrows s s' → (held : Option (Stored K V)) (operation : Operation V ℕ) (done : Result (Computed (Stored K V) ℕ) Refused)
      (next : Option (Stored K V)) → Answers says a held operation → Operates k s s' held operation done next
      → IsUpdate eq k held next (map_in eq s.store) (map_in eq s'.store) → Called (reply_of (answer_map (λ p. p.number) done))
  called keeps None (ops.Insert v) (Ok (Inserted q)) next answers (new, is) update = record {
    answered = record { went = None; came = next; update = update; does = (q, (v, record { number = refl; key = new.key; value = new.value }), is) };
    fresh = new.fresh;
    said = (
      q,
      new.logged,
      subst (λ o. Answers says a o (ops.Insert q.value)) (sym update.before)
          (subst (λ w. Answers says a None (ops.Insert w)) (sym new.value) answers),
    );
    cause = λ refused e. let f : replies.Inserted q.number ≡ replies.Refused refused = e in absurd cc;
    done = undone (Ok (Inserted q.number));
    keeps = keeps.0;
    tables = λ j is. keeps.1;
  }
  called keeps (Some p) (ops.Insert v) (Ok (Updated old q)) next answers (same, new, is) update = record {
    answered = record {
      went = Some p;
      came = next;
      update = update;
      does = (ap (λ (x : Stored K V). x.number) (sym same), (q, (v, record { number = refl; key = new.key; value = new.value }), is));
    };
    fresh = new.fresh;
    said = (
      q,
      new.logged,
      subst (λ o. Answers says a o (ops.Insert q.value)) (sym update.before)
          (subst (λ w. Answers says a (Some p) (ops.Insert w)) (sym new.value) answers),
    );
    cause = λ refused e. let f : replies.Replaced old.number q.number ≡ replies.Refused refused = e in absurd cc;
    done = undone (Ok (Updated old.number q.number));
    keeps = keeps.0;
    tables = λ j is. keeps.1;
  }
  called keeps None (ops.Insert v) (Err refused) next answers (cause, is) update = record {
    answered = (
      update_leaves eq classes s.store s'.store k None
          (subst (λ o. IsUpdate eq k None o (map_in eq s.store) (map_in eq s'.store)) is update),
      λ e.
          absurd (caused refused (write_cause s s' None refused cause) e),
    );
    fresh = tt;
    said = subst (λ o. IsOperated says a s o s'.store (replies.Refused refused)) (sym update.before)
        (insertion_said None v refused (write_cause s s' None refused cause) answers);
    cause = λ other e. inl (subst (λ r. IsWriteCauseAt s (map_in eq s.store k) r s')
        (let f : replies.Refused refused ≡ replies.Refused other = e in cc) (subst (λ o. IsWriteCauseAt s o refused s') (sym update.before) cause));
    done = undone (Err refused);
    keeps = keeps.0;
    tables = λ j is. keeps.1;
  }
  called keeps (Some p) (ops.Insert v) (Err refused) next answers (cause, is) update = record {
    answered = (
      update_leaves eq classes s.store s'.store k (Some p)
          (subst (λ o. IsUpdate eq k (Some p) o (map_in eq s.store) (map_in eq s'.store)) is update),
      λ e.
          absurd (caused refused (write_cause s s' (Some p) refused cause) e),
    );
    fresh = tt;
    said = subst (λ o. IsOperated says a s o s'.store (replies.Refused refused)) (sym update.before)
        (insertion_said (Some p) v refused (write_cause s s' (Some p) refused cause) answers);
    cause = λ other e. inl (subst (λ r. IsWriteCauseAt s (map_in eq s.store k) r s')
        (let f : replies.Refused refused ≡ replies.Refused other = e in cc) (subst (λ o. IsWriteCauseAt s o refused s') (sym update.before) cause));
    done = undone (Err refused);
    keeps = keeps.0;
    tables = λ j is. keeps.1;
  }
  called keeps None ops.Remove (Err refused) next answers (nothing_there, is) update =
      subst (λ r. Called (replies.Refused r)) (sym nothing_there) (record {
        answered = (
          update_leaves eq classes s.store s'.store k None (subst (λ o. IsUpdate eq k None o (map_in eq s.store) (map_in eq s'.store)) is update),
          λ e. subst (λ o. Does (Compute k a) o (replies.Refused RemoveNothing) o) (sym update.before) refl,
        );
        fresh = tt;
        said = subst (λ o. Answers says a o ops.Remove) (sym update.before) answers;
        cause = λ other e. inr (let f : replies.Refused RemoveNothing ≡ replies.Refused other = e in cc);
        done = undone (Err RemoveNothing);
        keeps = keeps.0;
        tables = λ j is. keeps.1;
      })
  called keeps (Some p) ops.Remove (Ok (Removed old)) next answers (same, is) update = record {
    answered = record { went = Some p; came = next; update = update; does = (ap (λ (x : Stored K V). x.number) (sym same), is) };
    fresh = tt;
    said = subst (λ o. Answers says a o ops.Remove) (sym update.before) answers;
    cause = λ refused e. let f : replies.Removed old.number ≡ replies.Refused refused = e in absurd cc;
    done = undone (Ok (Removed old.number));
    keeps = keeps.0;
    tables = λ j is. keeps.1;
  }
  called keeps None (ops.Abort t) (Ok (Aborted u)) next answers (same, is) update = record {
    answered = record { went = None; came = next; update = update; does = is };
    fresh = tt;
    said = subst (λ o. Answers says a o (ops.Abort u)) (sym update.before) (subst (λ w. Answers says a None (ops.Abort w)) (sym same) answers);
    cause = λ refused e. let f : replies.Aborted u ≡ replies.Refused refused = e in absurd cc;
    done = undone (Ok (Aborted u));
    keeps = keeps.0;
    tables = λ j is. keeps.1;
  }
  called keeps (Some p) (ops.Abort t) (Ok (Aborted u)) next answers (same, is) update = record {
    answered = record { went = Some p; came = next; update = update; does = is };
    fresh = tt;
    said = subst (λ o. Answers says a o (ops.Abort u)) (sym update.before) (subst (λ w. Answers says a (Some p) (ops.Abort w)) (sym same) answers);
    cause = λ refused e. let f : replies.Aborted u ≡ replies.Refused refused = e in absurd cc;
    done = undone (Ok (Aborted u));
    keeps = keeps.0;
    tables = λ j is. keeps.1;
  }
  called keeps None (ops.Insert v) (Ok (Updated old q)) next answers o update = absurd o
  called keeps None (ops.Insert v) (Ok (Removed old)) next answers o update = absurd o
  called keeps None (ops.Insert v) (Ok (Aborted u)) next answers o update = absurd o
  called keeps (Some p) (ops.Insert v) (Ok (Inserted q)) next answers o update = absurd o
  called keeps (Some p) (ops.Insert v) (Ok (Removed old)) next answers o update = absurd o
  called keeps (Some p) (ops.Insert v) (Ok (Aborted u)) next answers o update = absurd o
  called keeps None ops.Remove (Ok done) next answers o update = absurd o
  called keeps (Some p) ops.Remove (Ok (Inserted q)) next answers o update = absurd o
  called keeps (Some p) ops.Remove (Ok (Updated old q)) next answers o update = absurd o
  called keeps (Some p) ops.Remove (Ok (Aborted u)) next answers o update = absurd o
  called keeps (Some p) ops.Remove (Err refused) next answers o update = absurd o
  called keeps None (ops.Abort t) (Ok (Inserted q)) next answers o update = absurd o
  called keeps None (ops.Abort t) (Ok (Updated old q)) next answers o update = absurd o
  called keeps None (ops.Abort t) (Ok (Removed old)) next answers o update = absurd o
  called keeps None (ops.Abort t) (Err refused) next answers o update = absurd o
  called keeps (Some p) (ops.Abort t) (Ok (Inserted q)) next answers o update = absurd o
  called keeps (Some p) (ops.Abort t) (Ok (Updated old q)) next answers o update = absurd o
  called keeps (Some p) (ops.Abort t) (Ok (Removed old)) next answers o update = absurd o
  called keeps (Some p) (ops.Abort t) (Err refused) next answers o update = absurd o

  -- if the call was refused before its closure was called
  called_first : (done : Result (Computed (Stored K V) ℕ) Refused) → IsRefusedFirst eq k s done s' → Called (reply_of (answer_map (λ p. p.number) done))
  called_first done (resizing, (refused, is, (cause, same, kept))) =
      subst (λ (d : Result (Computed (Stored K V) ℕ) Refused). Called (reply_of (answer_map (λ p. p.number) d))) (sym is) (record {
        answered = (same, λ e. absurd (caused refused cause e));
        fresh = tt;
        said = moving_said (map_in eq s.store k) refused resizing cause;
        cause = λ other e. inl (subst (λ r. IsWriteCauseAt s (map_in eq s.store k) r s')
            (let f : replies.Refused refused ≡ replies.Refused other = e in cc) (caused_moving (map_in eq s.store k) refused resizing cause));
        done = undone (Err refused);
        keeps = kept.0;
        tables = λ j is. kept.1;
      })

-- a compute by a closure that gives a call's answers
pub compute_called : {K V S A : Type 0} (eq : K → K → Bool) (classes : IsEquivalence eq) (s s' : MapState K V S) (k : K) (a : A)
    (says : Answers_say K V A) {post : Option (Bor K × Bor V) → Operation V ℕ → Type 0}
    → ((shown : Option (Bor K × Bor V)) (operation : Operation V ℕ) → post shown operation → (a' : A) × says.op a (option_map deref_pair shown) operation a')
    → (answer : Result (Computed ℕ ℕ) Refused) (reply : Reply) → reply ≡ reply_of answer → ComputesBy eq k (λ p. p.number) (Says post) s answer s'
    → IsCalled eq says s (Compute k a) reply s'
compute_called {K} {V} {S} eq classes s s' k a says {post} gives answer reply is (done, answer_is, computes) =
    subst (λ r. IsCalled eq says s (Compute k a) r s') (sym (is ∙ ap reply_of answer_is))
    (⊎_elim
    (λ (c : CallsOnce eq k (Says post) s done s').
    let (shown, are, said) = c.answered in
    let (a', given) = gives shown c.operation said in
    called eq classes s s' k a says c.keeps c.held c.operation done c.next (a', subst (λ o. says.op a o c.operation a') are given) c.operates c.update)
    (λ (first : IsRefusedFirst eq k s done s'). called_first eq classes s s' k a says done first)
    computes)
