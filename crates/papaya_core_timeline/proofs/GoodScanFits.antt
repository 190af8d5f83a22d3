-- The effect of a scanner's ask; the pairs that its call may return, pass to its closure and
-- remove; and the replies that it may give.
use Rattle.std.proofs.Common.{rules, ◌≡◌, ◌⊎◌, inl, inr, ℕ, Bool, false, Option, None, Some, List, [], refl, sym, ◌∙◌, ap}
use Rattle.papaya_words.specs.declared.refused.Refused.{Refused as Refusal}
use Rattle.papaya_words.specs.declared.refused.Refused.TheVariants.{RemoveNothing, Memory}
use Rattle.papaya_call.specs.declared.ask.Answer.TheVariants.{Ok, Refused as Was_refused}
use Rattle.papaya_call.specs.declared.call.Call.{Call}
use Rattle.papaya_call.specs.declared.call.Call.TheVariants.{Get, Insert, TryInsert, RemoveIf, Compute, Reserve, CopyAll, Clear, Retain, Walk}
use Rattle.papaya_call.specs.declared.call.Reply.{Reply}
use Rattle.papaya_call.specs.declared.call.Reply.TheVariants.{Done, Refused}
use Rattle.papaya_call.specs.Answers.{Says}
use Rattle.papaya_call.specs.declared.chain.ask.Answer.{Answer}
use Rattle.papaya_call.specs.declared.chain.ask.Answer.TheVariants as answers
use Rattle.papaya_words_law.specs.Code.{Coding}
use Rattle.papaya_words_law.specs.Exchange.{Exchange, Setting, State as Words}
use Rattle.papaya_call_law.specs.Relies.{Change}
use Rattle.papaya_core_store.specs.declared.pairs.Running.{Running}
use Rattle.papaya_core_store.specs.Store.{StoreState, Stored}
use Rattle.papaya_core_timeline.specs.Kept.{CallTrace}
use Rattle.papaya_core_timeline.specs.Maps.{Map}
use Rattle.papaya_core_timeline.specs.Runs.{History}
use Rattle.papaya_core_timeline.specs.Timeline.{AtSomeMoment, FitsAsked, FitsGiven, HasNumber, IsAgreed, IsUnchanged, MayChange, last_asked}
use Rattle.papaya_core_timeline.specs.ScanGoes.{reply_or, list_refusal}
use Rattle.papaya_core_timeline.proofs.CallersLemmas.{same_item}
use Rattle.papaya_core_timeline.proofs.EndingLemmas.{copy_unrefused}
use Rattle.papaya_core_timeline.proofs.Good.{IsScanOf, IsTied}
use Rattle.papaya_core_timeline.proofs.StepScans.{IsWithout}
use Rattle.papaya_core_timeline.proofs.StoreLemmas.{copy_pairs}
use Rattle.papaya_call.specs.declared.chain.ask.ScanAsk.{ScanAsk}
use Rattle.papaya_call.specs.declared.chain.ask.ScanAsk.TheVariants.{Copy, Show, Given, AddToShard}
use Rattle.papaya_call.specs.declared.chain.scanner.ScannerState.{ScannerState}
use Rattle.papaya_call.specs.declared.chain.scanner.ScannerState.TheVariants as states
use Rattle.papaya_call.specs.declared.chain.scanner.Scan.{Scan}
use Rattle.papaya_call.specs.declared.chain.scanner.Scan.TheVariants as scans
use Rattle.papaya_call.specs.Scanner.{reply_in}
use Rattle.papaya_call_law.specs.ScanAnswers.{LoadedPairs}
use Rattle.papaya_call_law.specs.Scans.{ReliesState}
use Rattle.papaya_core_store.specs.declared.scans.Scanning.{Scanning}
use Rattle.papaya_core_store.specs.Scans.{PerformsScan}

module _ {K V S A : Type 0} (eq : K → K → Bool) (hash : S → K → ℕ) (refuse : Bool) where
  -- the asks of a scanner leave the arena
  pub scan_pairs : (says : Says K V A) (ask : ScanAsk) (s : StoreState K V S) (v : Scanning A) (a : Answer) (s' : StoreState K V S) (v' : Scanning A)
      → PerformsScan eq says hash refuse ask s v a s' v' → s'.pairs ≡ s.pairs
  scan_pairs says (Copy ask) s v a s' v' (performs, same) = copy_pairs eq hash refuse ask s a s' performs
  scan_pairs says (Show n) s v a s' v' (told, same) = ap (λ (y : StoreState K V S). y.pairs) same
  scan_pairs says (Given n) s v a s' v' (told, same) = ap (λ (y : StoreState K V S). y.pairs) same
  scan_pairs says (AddToShard by) s v a s' v' (is, counted, same) = ap (λ (y : StoreState K V S). y.pairs) counted.1

  -- it is never refused as a removal of nothing is
  pub scan_unrefused : (says : Says K V A) (ask : ScanAsk) (s : StoreState K V S) (v : Scanning A) (a : Answer) (s' : StoreState K V S)
      (v' : Scanning A) → PerformsScan eq says hash refuse ask s v a s' v' → a ≡ answers.Call (Was_refused RemoveNothing) → ⊥
  scan_unrefused says (Copy ask) s v a s' v' (performs, same) is = copy_unrefused eq hash refuse s a s' ask performs is
  scan_unrefused says (Show n) s v a s' v' ((told, e, inl (nothing, ok, as_was)), same) is = let f : answers.Call Ok ≡ answers.Call
      (Was_refused RemoveNothing) = sym (e ∙ ap answers.Call ok) ∙ is in absurd cc
  scan_unrefused says (Show n) s v a s' v' ((told, e, inr (x, p, stays, x', had, there, said, told_so, later)), same) is = let f = sym
      (e ∙ ap answers.Call told_so) ∙ is in absurd (cc f)
  scan_unrefused says (Given n) s v a s' v' ((told, e, inl (ok, given)), same) is = let f : answers.Call Ok ≡ answers.Call
      (Was_refused RemoveNothing) = sym (e ∙ ap answers.Call ok) ∙ is in absurd cc
  scan_unrefused says (Given n) s v a s' v' ((told, e, inr (refused, as_was, left, gave)), same) is = let f : answers.Call (Was_refused Memory)
      ≡ answers.Call (Was_refused RemoveNothing) = sym (e ∙ ap answers.Call refused) ∙ is in absurd cc
  scan_unrefused says (AddToShard by) s v a s' v' (e, counted, same) is = let f : answers.Call Ok ≡ answers.Call (Was_refused RemoveNothing) = sym e
      ∙ is in absurd cc

-- if a list could not grow, the answer is that refusal
pub unheard_is : (ask : ScanAsk) (a : Answer) (refused : Refusal) → list_refusal ask a ≡ Some refused → a ≡ answers.Call (Was_refused refused)
unheard_is ask a refused e = search rules

-- the reply of a scanner
pub scan_replies : (state : ScannerState) (o : Option Refusal) (rep : Reply) → reply_or o (reply_in state) ≡ Some rep
    → ((rep ≡ Done) × (reply_in state ≡ Some Done)) ⊎ ((refused : Refusal) × (rep ≡ Refused refused))
scan_replies state (Some refused) rep e = inr (refused, sym (same_item (Refused refused) rep e))
scan_replies states.Done None rep e = let is : rep ≡ Done = sym (same_item Done rep e) in inl (is, refl)
scan_replies (states.Refused refused) None rep e = inr (refused, sym (same_item (Refused refused) rep e))
scan_replies (states.Copying stage) None rep e = absurd cc
scan_replies states.AtRoot None rep e = absurd cc
scan_replies (states.Sizing table) None rep e = absurd cc
scan_replies (states.Looking spot) None rep e = absurd cc
scan_replies (states.Giving spot word) None rep e = absurd cc
scan_replies (states.Showing spot word) None rep e = absurd cc
scan_replies (states.Burying spot word) None rep e = absurd cc
scan_replies (states.Uncounting spot) None rep e = absurd cc

module _ {K V A : Type 0} (eq : K → K → Bool) where
  -- only an iteration returns pairs
  pub walk_gives : (call : Call K V A) (n c : ℕ) (h : History) (maps : List (Map K V)) → IsScanOf call scans.Walk
      → AtSomeMoment (HasNumber n) c h maps → FitsGiven eq (Some call) n c h maps
  walk_gives Walk n c h maps of at = at
  walk_gives Clear n c h maps of at = absurd of
  walk_gives (Retain a) n c h maps of at = absurd of
  walk_gives (Get k) n c h maps of at = absurd of
  walk_gives (Insert k v) n c h maps of at = absurd of
  walk_gives (TryInsert k v) n c h maps of at = absurd of
  walk_gives (RemoveIf k a) n c h maps of at = absurd of
  walk_gives (Compute k a) n c h maps of at = absurd of
  walk_gives (Reserve more) n c h maps of at = absurd of
  walk_gives CopyAll n c h maps of at = absurd of

  -- only a retain calls a closure
  pub retain_shows : (call : Call K V A) (n c : ℕ) (h : History) (maps : List (Map K V)) → IsScanOf call scans.Retain
      → AtSomeMoment (HasNumber n) c h maps → FitsAsked eq (Some call) n c h maps
  retain_shows (Retain a) n c h maps of at = at
  retain_shows Clear n c h maps of at = absurd of
  retain_shows Walk n c h maps of at = absurd of
  retain_shows (Get k) n c h maps of at = absurd of
  retain_shows (Insert k v) n c h maps of at = absurd of
  retain_shows (TryInsert k v) n c h maps of at = absurd of
  retain_shows (RemoveIf k a) n c h maps of at = absurd of
  retain_shows (Compute k a) n c h maps of at = absurd of
  retain_shows (Reserve more) n c h maps of at = absurd of
  retain_shows CopyAll n c h maps of at = absurd of

  -- an iteration takes nothing out
  pub scan_takes : (call : Call K V A) (scan : Scan) (made : Change) (p : Stored K V) (c : ℕ) (h : History) (said : _) → IsScanOf call scan
      → (scan ≡ scans.Walk → ⊥) → (scan ≡ scans.Retain → last_asked c p.number h ≡ Some false) → MayChange eq (Some call) made p.key (Some p) None
      × IsAgreed (Some call) c (Some p.number) None h said
  scan_takes Clear scan made p c h said of no_walk agreed = ((refl, refl), tt)
  scan_takes (Retain a) scans.Retain made p c h said of no_walk agreed = ((refl, refl), agreed refl)
  scan_takes (Retain a) scans.Clear made p c h said of no_walk agreed = absurd of
  scan_takes (Retain a) scans.Walk made p c h said of no_walk agreed = absurd of
  scan_takes Walk scans.Walk made p c h said of no_walk agreed = absurd (no_walk refl)
  scan_takes Walk scans.Clear made p c h said of no_walk agreed = absurd of
  scan_takes Walk scans.Retain made p c h said of no_walk agreed = absurd of
  scan_takes (Get k) scan made p c h said of no_walk agreed = absurd of
  scan_takes (Insert k v) scan made p c h said of no_walk agreed = absurd of
  scan_takes (TryInsert k v) scan made p c h said of no_walk agreed = absurd of
  scan_takes (RemoveIf k a) scan made p c h said of no_walk agreed = absurd of
  scan_takes (Compute k a) scan made p c h said of no_walk agreed = absurd of
  scan_takes (Reserve more) scan made p c h said of no_walk agreed = absurd of
  scan_takes CopyAll scan made p c h said of no_walk agreed = absurd of

  -- if it is refused, an iteration has changed nothing
  pub scan_refused : (call : Call K V A) (scan : Scan) (made : Change) → IsScanOf call scan → (scan ≡ scans.Walk → made ≡ None) → IsUnchanged eq call made
  scan_refused Clear scan made of unchanged = tt
  scan_refused (Retain a) scan made of unchanged = tt
  scan_refused Walk scans.Walk made of unchanged = unchanged refl
  scan_refused Walk scans.Clear made of unchanged = absurd of
  scan_refused Walk scans.Retain made of unchanged = absurd of
  scan_refused (Get k) scan made of unchanged = absurd of
  scan_refused (Insert k v) scan made of unchanged = absurd of
  scan_refused (TryInsert k v) scan made of unchanged = absurd of
  scan_refused (RemoveIf k a) scan made of unchanged = absurd of
  scan_refused (Compute k a) scan made of unchanged = absurd of
  scan_refused (Reserve more) scan made of unchanged = absurd of
  scan_refused CopyAll scan made of unchanged = absurd of

-- the trace of a scanner does not matter to a call on one key
pub tied_scan : {K V S A : Type 0} (eq : K → K → Bool) (store : StoreState K V S) (r : Running K V A) (call : Call K V A) (d : ℕ)
    (call_trace : CallTrace K V) (loaded : LoadedPairs (Stored K V)) (h : History) (maps : List (Map K V)) (said : _)
    → IsTied eq store r call d call_trace h maps said → IsTied eq store r call d (record call_trace { scan = loaded }) h maps said
tied_scan eq store r call d call_trace loaded h maps said t = record {
  own = t.own;
  key = t.key;
  key_is = t.key_is;
  task = t.task;
  value = t.value;
  made = t.made;
  change = t.change;
  said = t.said;
  shows = t.shows;
  once = t.once;
  moments = t.moments;
}

-- a state without a table has returned nothing
pub none_given : {K P : Type 0} (g : Setting K P) (c : Coding K P) (s : Words P) (m : K → Option P) (since : List (Exchange P)) (scan : Scan)
    (loaded : LoadedPairs P) (state : ScannerState) → IsWithout state → ReliesState g c s m since scan loaded state → loaded.given ≡ []
none_given g c s m since scan loaded (states.Copying stage) without relies = relies.0
none_given g c s m since scan loaded states.AtRoot without relies = relies.0
none_given g c s m since scan loaded (states.Sizing table) without relies = absurd without
none_given g c s m since scan loaded (states.Looking spot) without relies = absurd without
none_given g c s m since scan loaded (states.Giving spot word) without relies = absurd without
none_given g c s m since scan loaded (states.Showing spot word) without relies = absurd without
none_given g c s m since scan loaded (states.Burying spot word) without relies = absurd without
none_given g c s m since scan loaded (states.Uncounting spot) without relies = absurd without
none_given g c s m since scan loaded states.Done without relies = absurd without
none_given g c s m since scan loaded (states.Refused refused) without relies = absurd without
