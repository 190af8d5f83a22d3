-- After a step of the making of a table, or of the copy of the root, the facts that the call relies
-- on hold again.
use Rattle.std.proofs.Common.{◌≡◌, inl, inr, ℕ, ◌<◌, true, false, Some, List, [], ◌++◌, append-nil, refl, sym, ap, ◌∙◌, subst}
use Rattle.papaya_words.specs.declared.refused.Refused.{Refused}
use Rattle.papaya_call.specs.declared.ask.Answer.TheVariants.{Word as Word_read}
use Rattle.papaya_call.specs.declared.call.Reply.TheVariants.{Refused as Reply_refused}
use Rattle.papaya_call.specs.declared.call.Task.{Task}
use Rattle.papaya_call.specs.declared.call.Task.TheVariants.{Get, Insert, RemoveIf, Compute}
use Rattle.papaya_call.specs.declared.machine.State.{State as Stage}
use Rattle.papaya_call.specs.declared.machine.State.TheVariants.{AtRoot as At_root, Growing, Ended}
use Rattle.papaya_call.specs.declared.need.Need.TheVariants.{Room, Pair as Pair_at}
use Rattle.papaya_call.specs.Machine.{IsChanger}
use Rattle.papaya_call.specs.Machine as call_machine
use Rattle.papaya_call.specs.declared.copy.copying.Aim.{Aim}
use Rattle.papaya_call.specs.declared.copy.copying.Aim.TheVariants as aims
use Rattle.papaya_call.specs.declared.copy.copying.Copied.{Copied}
use Rattle.papaya_call.specs.declared.copy.copying.Copied.TheVariants as copied
use Rattle.papaya_call.specs.declared.copy.link.Linked.{Linked}
use Rattle.papaya_call.specs.declared.copy.link.Linked.TheVariants as linked
use Rattle.papaya_call.specs.declared.chain.machine.Machine.{Machine}
use Rattle.papaya_call.specs.ChainMachine.{aim_for, after_copied, after_linked, restarted, enters, onward, refuses}
use Rattle.papaya_words_law.specs.Allows.{AllAllowed}
use Rattle.papaya_words_law.specs.Code.{Coding, IsHashed}
use Rattle.papaya_words_law.specs.Copying.{IsSettled}
use Rattle.papaya_words_law.specs.Exchange.{Setting, State, Exchange, run, start}
use Rattle.papaya_call_law.specs.Copier.{IsLedTo, IsStillAimed, ReliesCopied, ReliesLinked, aim_of}
use Rattle.papaya_call_law.specs.Relies.{ReliesStage}
use Rattle.papaya_call_law.specs.Relies as calls
use Rattle.papaya_call_law.specs.TrueAnswers as call_loaded
use Rattle.papaya_call_law.specs.ChainRelies.{Relies, left_by}
use Rattle.papaya_call_law.specs.ChainAnswers.{LoadedPairs}
use Rattle.papaya_call_law.proofs.ReliesLearn.{machine_learns}
use Rattle.papaya_call.proofs.Settings.{settings_stable}
use Rattle.papaya_call_law.proofs.Aside.{enters_relies}
use Rattle.papaya_call_law.proofs.Onward.{onward_relies}

-- a call that is set aside copies for a chunk and a table or a slot, and continues to copy for that
same_aimed : (stage : Stage) (n : ℕ) (aim : Aim) → IsStillAimed (aim_for stage n) aim → aim ≡ aim_for stage n
same_aimed (Growing (Pair_at t x)) n aim still = still
same_aimed (Growing (Room t)) n aim still = still
same_aimed stage n aim still = still

-- for no chunk alone, and not for all
pub not_chunk : (stage : Stage) (n : ℕ) → aim_for stage n ≡ aims.Chunk → ⊥
not_chunk (Growing (Pair_at t x)) n e = cc e
not_chunk (Growing (Room t)) n e = cc e
not_chunk stage n e = cc e

not_all : (stage : Stage) (n met : ℕ) → aim_for stage n ≡ aims.All met → ⊥
not_all (Growing (Pair_at t x)) n met e = cc e
not_all (Growing (Room t)) n met e = cc e
not_all stage n met e = cc e

module _ {K P : Type 0} (g : Setting K P) (c : Coding K P) (hashed : IsHashed g c) (begun since : List (Exchange P))
    (may : AllAllowed g start (begun ++ since)) (k : K) where
  -- the state after all exchanges
  abbrev now : State P
  now = run (begun ++ since) start

  -- a call that may change the map may fail
  refused_stage : (loaded : call_loaded.LoadedPairs P) (task : Task) → IsChanger task → (refused : Refused)
      → ReliesStage g c begun since k loaded task (Ended (Reply_refused refused))
  refused_stage loaded Get changes refused = absurd changes
  refused_stage loaded (Insert replace) changes refused = tt
  refused_stage loaded RemoveIf changes refused = tt
  refused_stage loaded Compute changes refused = tt

  module _ (m : Machine) (loaded : LoadedPairs P) (cut : calls.IsCutAs m.call.mode g.chunk_of) (r : calls.Relies g c begun since k m.call loaded.call)
      (changes : IsChanger m.call.task) where
    -- a table could not be made
    refuses_relies : (refused : Refused) → Relies g c begun since k (refuses m refused) loaded
    refuses_relies refused = record {
      cut = cut;
      call = record { hash = r.hash; mode = r.mode; made = r.made; stage = refused_stage loaded.call m.call.task changes refused };
      phase = tt;
    }

    -- with blocking the call starts again at the root
    anew_relies : (root : ℕ) → now.root ≡ root → Relies g c begun since k (restarted m root) loaded
    anew_relies root is = subst (λ n. Relies g c begun since k (restarted m n) loaded) is
        (record {
          cut = subst (λ mode. calls.IsCutAs mode g.chunk_of) (sym (settings_stable (record m.call { state = At_root }) (Word_read now.root)).0) cut;
          call = subst (λ l. calls.Relies g c begun l k (call_machine.after (record m.call { state = At_root }) (Word_read now.root)) loaded.call)
              (append-nil since)
              (machine_learns g c hashed begun since may k (record m.call { state = At_root }) loaded.call
              (record { hash = r.hash; mode = r.mode; made = r.made; stage = tt }) (Word_read now.root) [] loaded.call (refl, refl, refl)).1;
          phase = tt;
        })

    -- the state after the copy of all
    pub all_relies : g.blocking ≡ true → (t : ℕ) → left_by m.call.state ≡ Some t → (met : ℕ) (end : Copied)
        → ReliesCopied g c now loaded.call.last loaded.kept (aims.All met) end → Relies g c begun since k (after_copied m end) loaded
    all_relies blocks t left met (copied.On copying) is = record {
      cut = cut;
      call = r;
      phase = inr (record { mode = blocks; changes = changes; table = t; left = left; met = is.0.0; aim = is.0.1; relies = is.1 });
    }
    all_relies blocks t left met (copied.Search n) is = absurd is
    all_relies blocks t left met (copied.Root root) is = anew_relies root is.0
    all_relies blocks t left met copied.Chunk is = absurd cc
    all_relies blocks t left met (copied.Refused refused) is = refuses_relies refused

  module _ (inc : g.blocking ≡ false) (m : Machine) (loaded : LoadedPairs P) (cut : calls.IsCutAs m.call.mode g.chunk_of)
      (r : calls.Relies g c begun since k m.call loaded.call) (changes : IsChanger m.call.task) (t : ℕ) (left : left_by m.call.state ≡ Some t) where
    -- the state after the making of the next table
    pub linked_relies : (end : Linked) → ReliesLinked g c now loaded.call.last loaded.kept t end → Relies g c begun since k (after_linked m end) loaded
    linked_relies (linked.On link) is = record {
      cut = cut;
      call = r;
      phase = record { mode = inc; changes = changes; left = left ∙ ap (λ n. Some n) (sym is.0); relies = is.1 };
    }
    linked_relies (linked.Table n) is =
        subst (λ n. Relies g c begun since k (onward m n) loaded) is.0
        (onward_relies g c hashed begun since may k inc m loaded cut r changes t left (subst (λ n. 0 < n) (sym is.0) is.1))
    linked_relies (linked.Refused refused) is = refuses_relies m loaded cut r changes refused

    module _ (some : 0 < now.next t) where
      -- if the call met its key's pair in a slot, that slot is migrated
      led_settled : (stage : Stage) (n : ℕ) → IsLedTo g c now loaded.call.last loaded.kept (aim_for stage (now.next t)) n → (u x : ℕ)
          → stage ≡ Growing (Pair_at u x) → IsSettled g now (now.next t) (now.slot u x)
      led_settled (Growing (Pair_at v y)) n led u x e =
          let same_table : v ≡ u = cc e in
          let same_slot : y ≡ x = cc e in
          subst (λ a. IsSettled g now (now.next t) (now.slot a x)) same_table (subst (λ b. IsSettled g now (now.next t) (now.slot v b)) same_slot led.1)
      led_settled (Growing (Room v)) n led u x e = absurd cc
      led_settled stage n led u x e = absurd cc

      -- and it is the next table
      led_next : (stage : Stage) (n : ℕ) → IsLedTo g c now loaded.call.last loaded.kept (aim_for stage (now.next t)) n → n ≡ now.next t
      led_next (Growing (Pair_at v y)) n led = led.0
      led_next (Growing (Room v)) n led = led
      led_next stage n led = led

      -- the state after the copy of the root
      pub copied_relies : (end : Copied) → ReliesCopied g c now loaded.call.last loaded.kept (aim_for m.call.state (now.next t)) end
          → Relies g c begun since k (after_copied m end) loaded
      copied_relies (copied.On copying) is = record {
        cut = cut;
        call = r;
        phase = inl (record {
          mode = inc;
          changes = changes;
          table = t;
          left = left;
          next = some;
          aim = same_aimed m.call.state (now.next t)
              (aim_of copying) is.0;
          relies = is.1;
        });
      }
      copied_relies (copied.Search n) led =
          subst (λ y. Relies g c begun since k (enters m y) loaded) (sym (led_next m.call.state n led))
          (record {
            cut = cut;
            call = enters_relies g c hashed begun since may k inc m.call loaded.call r t left some
                (led_settled m.call.state n led);
            phase = tt;
          })
      copied_relies (copied.Root root) is = absurd (not_all m.call.state (now.next t) is.1.0 is.1.1)
      copied_relies copied.Chunk is = absurd (not_chunk m.call.state (now.next t) is)
      copied_relies (copied.Refused refused) is = refuses_relies m loaded cut r changes refused
