-- After an answer to its copy's ask, a call stays set aside or continues in phase `Calling`.
use Rattle.std.proofs.Common.{◌≡◌, ◌⊎◌, inl, inr, ⊎_elim, ℕ, Bool, true, false, Some, List, ◌++◌, refl, sym, ap, ◌∙◌, subst}
use Rattle.papaya_words.specs.declared.refused.Refused.{Refused}
use Rattle.papaya_words.specs.declared.refused.Refused.TheVariants.{Capacity, Memory}
use Rattle.papaya_call.specs.declared.ask.Answer.TheVariants.{Exchanged}
use Rattle.papaya_call.specs.declared.ask.Ask.TheVariants.{Done as Ask_done}
use Rattle.papaya_call.specs.declared.call.Reply.{Reply}
use Rattle.papaya_call.specs.declared.copy_ask.CopyAsk.{CopyAsk}
use Rattle.papaya_call.specs.declared.copy.copying.Aim.{Aim}
use Rattle.papaya_call.specs.declared.copy.copying.Aim.TheVariants as aims
use Rattle.papaya_call.specs.declared.copy.copying.Copied.{Copied}
use Rattle.papaya_call.specs.declared.copy.copying.Copied.TheVariants as copied
use Rattle.papaya_call.specs.declared.copy.copying.Copying.{Copying}
use Rattle.papaya_call.specs.declared.copy.copying.Copying.TheVariants.{Stepping, Lone}
use Rattle.papaya_call.specs.declared.copy.link.Linked.{Linked}
use Rattle.papaya_call.specs.declared.copy.link.Linked.TheVariants as linked
use Rattle.papaya_call.specs.declared.copy.settle.Settle.TheVariants as settles
use Rattle.papaya_call.specs.declared.copy.step.Step.TheVariants as steps
use Rattle.papaya_call.specs.Link.{IsValidLink}
use Rattle.papaya_call.specs.declared.chain.ask.Ask.TheVariants as asks
use Rattle.papaya_call.specs.declared.chain.ask.Answer.{Answer}
use Rattle.papaya_call.specs.declared.chain.ask.Answer.TheVariants as answers
use Rattle.papaya_call.specs.declared.chain.machine.Machine.{Machine}
use Rattle.papaya_call.specs.declared.chain.machine.Phase.{Phase}
use Rattle.papaya_call.specs.declared.chain.machine.Phase.TheVariants.{Calling, Linking, Copying as Copying_root}
use Rattle.papaya_call.specs.ChainMachine.{IsValid, IsValidPhase, after, after_copied, after_in}
use Rattle.papaya_call.specs.ChainMachine.{after_linked, aim_for, ask_of, asks_in, copying_after}
use Rattle.papaya_call.specs.ChainMachine.{follows_in, follows_of, goes_on, kind_in, kind_of_ask}
use Rattle.papaya_call.specs.ChainMachine.{link_after, onward, refuses}
use Rattle.papaya_words_law.specs.Allows.{AllAllowed}
use Rattle.papaya_words_law.specs.Code.{Coding, IsHashed}
use Rattle.papaya_words_law.specs.Exchange.{Exchange, Setting, State, run, start}
use Rattle.papaya_words_law.specs.Meaning.{map_left}
use Rattle.papaya_words_law.proofs.OneMap.{keeping}
use Rattle.papaya_call_law.specs.Copier.{HasWords, ReliesCopied, ReliesCopying, aim_of}
use Rattle.papaya_call_law.specs.Goes.{WasNotMade, WouldBeTooLong, link_in}
use Rattle.papaya_call_law.specs.ChainRelies.{Relies, ReliesPhase, left_by}
use Rattle.papaya_call_law.specs.ChainAnswers.{IsTrueOf, LoadedPairs}
use Rattle.papaya_call_law.proofs.CopyTold.{copying_learns}
use Rattle.papaya_call_law.proofs.Order.{in_order}
use Rattle.papaya_call_law.proofs.Outcomes.{not_chunk}
use Rattle.papaya_call_law.proofs.Refusals.{chain_refused}
use Rattle.papaya_map_book.specs.declared.rule.own.CapacityCause.{CapacityCause}
use Rattle.papaya_map_book.specs.Limits.{HasNoRoom}
use Rattle.papaya_map_change.specs.Changing.{IsCountingOf, IsSizedBy}
use Rattle.papaya_map_change.specs.Helping.{IsAside, IsGivenBy, HasResumed}

-- a machine that asks for a copy does not ask for its call
not_calling : (m : Machine) (phase : Phase) (ask : CopyAsk) → phase ≡ Calling → asks_in m.call phase ≡ asks.Copy ask → ⊥
not_calling m Calling ask is e = cc e
not_calling m (Linking link) ask is e = cc is
not_calling m (Copying_root copying) ask is e = cc is

pub busy : (m : Machine) (ask : CopyAsk) → ask_of m ≡ asks.Copy ask → m.phase ≡ Calling → ⊥
busy m ask e is = not_calling m m.phase ask is e

module _ {K P : Type 0} (g : Setting K P) (c : Coding K P) (hashed : IsHashed g c) (begun since : List (Exchange P))
    (may : AllAllowed g start (begun ++ since)) (k : K) (m : Machine) (loaded : LoadedPairs P) (r : Relies g c begun since k m loaded) (valid : IsValid m)
    (ask : CopyAsk) (asked : ask_of m ≡ asks.Copy ask) (answer : Answer) (words : answer ≡ answers.Call Exchanged → HasWords g (link_in m.phase))
    (es : List (Exchange P)) (loaded' : LoadedPairs P)
    (told : IsTrueOf g c k (run (begun ++ since) start) (kind_of_ask m) (follows_of m) loaded (ask_of m) answer es loaded') (tables : List ℕ)
    (counts : IsCountingOf tables m) (given : List CapacityCause) (by : IsGivenBy answer given) where
  -- the state after all exchanges
  abbrev now : State P
  now = run (begun ++ since) start

  -- the table from which the call continues
  left_in : (phase : Phase) → ReliesPhase g c begun since k m loaded phase → asks_in m.call phase ≡ asks.Copy ask → (t : ℕ) × (left_by m.call.state ≡ Some t)
  left_in Calling at e = absurd cc
  left_in (Linking link) at e = (Rattle.papaya_call.specs.Link.follows link, at.left)
  left_in (Copying_root copying) (inl at) e = (at.table, at.left)
  left_in (Copying_root copying) (inr at) e = (at.table, at.left)

  pub left_from : (t : ℕ) × (left_by m.call.state ≡ Some t)
  left_from = left_in m.phase r.phase asked

  not_replied : (reply : Reply) → ask_of m ≡ asks.Call (Ask_done reply) → ⊥
  not_replied reply e = let f : asks.Copy ask ≡ asks.Call (Ask_done reply) = sym asked ∙ e in cc f

  -- the cause why a table could not be made
  abbrev IsWhy : Refused → Type 0
  IsWhy refused = (refused ≡ Memory) ⊎ ((refused ≡ Capacity) × HasNoRoom m.call.initial tables given)

  why : (refused : Refused) → after m answer ≡ refuses m refused → IsWhy refused
  why refused e = elim (chain_refused g c k now m answer refused loaded es loaded' told
      (in_order g c begun since k m loaded now answer es loaded' r told) not_replied (ap ask_of e)) [
        | inl own ↦ absurd (busy m ask asked own.own.phase)
        | inr table ↦ of_table table.why
      ]
    where
      of_table : WasNotMade m answer refused ⊎ WouldBeTooLong m answer refused → IsWhy refused
      of_table (inl unmade) = ⊎_elim (λ memory. inl memory) (λ full. inr (full.0, inl full.1)) (subst (λ (a : Answer). IsGivenBy a given) unmade.is by)
      of_table (inr long) = inr (
        long.capacity,
        inr (record {
          count = long.count;
          given_is = subst (λ (a : Answer). IsGivenBy a given) long.is by;
          len = long.slots;
          there = subst (IsSizedBy tables) long.link counts;
          unfit = long.unfit;
          long = long.long;
        }),
      )

  -- it stays set aside, or continues
  abbrev Left : Machine → Type 0
  Left m' = IsAside m m' ⊎ HasResumed m m' tables given

  stays : (phase : Phase) → (phase ≡ Calling → ⊥) → (helped : Bool) → Left (record m { helped = helped; phase = phase })
  stays phase aside helped = inl (record { from = left_from.0; left = left_from.1; call = refl; busy = aside })

  enters_on : (n : ℕ) → Left (Rattle.papaya_call.specs.ChainMachine.enters m n)
  enters_on n = inr (record { calling = refl; where_to = inl (record { from = left_from.0; left = left_from.1; table = n; call = refl }) })

  begins_on : (root : ℕ) → Left (Rattle.papaya_call.specs.ChainMachine.restarted m root)
  begins_on root = inr (record { calling = refl; where_to = inr (inl (record { from = left_from.0; left = left_from.1; root = root; call = refl })) })

  refused_on : (refused : Refused) → after m answer ≡ refuses m refused → Left (refuses m refused)
  refused_on refused e = inr (record {
    calling = refl;
    where_to = inr
        (inr (record { from = left_from.0; left = left_from.1; refused = refused; call = refl; cause = why refused e }));
  })

  goes_left : (helped : Bool) (aim : Aim) (n : ℕ) → m.helped ≡ helped → Left (goes_on m helped aim n)
  goes_left false aim n e = stays (Copying_root (Stepping aim steps.AtRoot)) (λ f. cc f) true
  goes_left true (aims.Settle slot) n e = stays (Copying_root (Lone slot settles.Looking)) (λ f. cc f) m.helped
  goes_left true (aims.Search table) n e = enters_on n
  goes_left true aims.Chunk n e = enters_on n
  goes_left true (aims.All met) n e = enters_on n

  linked_left : (end : Linked) → after m answer ≡ after_linked m end → Left (after_linked m end)
  linked_left (linked.On link) e = stays (Linking link) (λ f. cc f) m.helped
  linked_left (linked.Table n) e = goes_left m.helped (aim_for m.call.state n) n refl
  linked_left (linked.Refused refused) e = refused_on refused e

  copied_left : (end : Copied) → (end ≡ copied.Chunk → ⊥) → after m answer ≡ after_copied m end → Left (after_copied m end)
  copied_left (copied.On copying) more e = stays (Copying_root copying) (λ f. cc f) m.helped
  copied_left (copied.Search n) more e = enters_on n
  copied_left (copied.Root root) more e = begins_on root
  copied_left copied.Chunk more e = absurd (more refl)
  copied_left (copied.Refused refused) more e = refused_on refused e

  -- no call copies a chunk for its own sake
  more_than : (copying : Copying) (end : Copied) → (aim_of copying ≡ aims.Chunk → ⊥)
      → ReliesCopied g c (run es now) loaded'.call.last loaded'.kept (aim_of copying) end → end ≡ copied.Chunk → ⊥
  more_than copying end not_only is e = not_only (subst (ReliesCopied g c (run es now) loaded'.call.last loaded'.kept (aim_of copying)) e is)

  aimed : (copying : Copying) → ReliesPhase g c begun since k m loaded (Copying_root copying) → aim_of copying ≡ aims.Chunk → ⊥
  aimed copying (inl at) e = not_chunk m.call.state _ (sym at.aim ∙ e)
  aimed copying (inr at) e = let f : aims.All at.met ≡ aims.Chunk = sym at.aim ∙ e in cc f

  copies : (copying : Copying) → ReliesPhase g c begun since k m loaded (Copying_root copying) → ReliesCopying g c now loaded.call.last loaded.kept copying
  copies copying (inl at) = at.relies
  copies copying (inr at) = at.relies

  left_for : (phase : Phase) → m.phase ≡ phase → ReliesPhase g c begun since k m loaded phase
      → IsTrueOf g c k now (kind_in m.call phase) (follows_in phase) loaded (asks_in m.call phase) answer es loaded' → Left (after_in m answer phase)
  left_for Calling e at h = absurd (busy m ask asked e)
  left_for (Linking link) e at h = linked_left (link_after link m.call.mode m.call.initial answer) (ap (after_in m answer) e)
  left_for (Copying_root copying) e at h =
      copied_left (copying_after copying m.call.mode m.call.initial m.number answer)
      (more_than copying (copying_after copying m.call.mode m.call.initial m.number answer) (aimed copying at)
      (copying_learns g c hashed now (map_left g (begun ++ since)) (keeping g hashed.lawful (begun ++ since) may) m.call.mode r.call.mode r.cut
      m.call.initial m.number loaded copying (copies copying at) answer (λ x. subst (λ (z : Phase). HasWords g (link_in z)) e (words x)) es loaded' h).1)
      (ap (after_in m answer) e)

  pub leaves : Left (after m answer)
  leaves = left_for m.phase refl r.phase told
