use Rattle.std.proofs.Common.{map, sym, ap, ◌∙◌, subst}
use Rattle.papaya_words.specs.declared.limits.TheConstants.{DEFAULT_CHUNK}
use Rattle.papaya_words.specs.declared.resize_mode.ResizeMode.TheVariants.{Incremental}
use Rattle.papaya_core_timeline.specs.Content.{content}
use Rattle.papaya_core_timeline.specs.New.{IsNew}
use Rattle.papaya_seq.specs.Map.{MapState, core_of, entry_of}
use Rattle.papaya_seq.proofs.Filled.{new_with_own}
use Rattle.papaya_seq.proofs.Rebuilt.{clone_cut, clone_parts, rebuilt_of}
use Rattle.papaya_seq.proofs.seq.HashMap.try_clone.Goals as goal

pub returns-in-Ok-copy_from-clause-clones : goal.returns-in-Ok-copy_from-clause-clones
returns-in-Ok-copy_from-clause-clones g c =
    let new = c.in_ok-made.ensures.ok in
    rebuilt_of g.K.PartialEq.eq g.met.K.Eq.laws g.K.Clone.is_clone g.V.Clone.is_clone c.requires g.S.Clone.is_clone c.args.self.now c.in_ok-made.made
    c.copy_from.new.self c.len.ensures.apart c.in_ok-made.ensures.empty new.store_is.pairs
    (subst (λ h. g.S.Clone.is_clone h c.in_ok-made.made.store.hasher) (c.hasher.ensures ∙ ap (λ (m : MapState _ _ _). m.store.hasher) c.self.view_is)
    (subst (g.S.Clone.is_clone c.hasher.result.now) (sym new.store_is.hasher_is) c.in-Ok.ensures.cases))
    c.in-Ok-copy_from.ensures.ok

pub returns-in-Ok-copy_from-clause-parts : goal.returns-in-Ok-copy_from-clause-parts
returns-in-Ok-copy_from-clause-parts g c =
    clone_parts g.K.PartialEq.eq g.met.K.Eq.laws g.K.Clone.is_clone g.V.Clone.is_clone c.len.result c.in-Ok.hasher c.in_ok-made.made
    c.copy_from.new.self (map entry_of (content g.K.PartialEq.eq c.args.self.now.store)) c.in_ok-made.ensures.ok c.in-Ok-copy_from.ensures.ok _
    c.len.ensures.count

pub returns-in-Err-clause-err : goal.returns-in-Err-clause-err
returns-in-Err-clause-err g c = clone_cut g.K.PartialEq.eq g.met.K.Eq.laws g.K.Clone.is_clone g.V.Clone.is_clone c.args.self.now.store c.len.result
    c.in-Ok.hasher c.in_ok-made.made c.copy_from.new.self c.len.ensures.count c.in_ok-made.ensures.ok c.in-Err.refused c.in-Err.ensures.err

pub returns-in-Ok-copy_from-clause-alone : goal.returns-in-Ok-copy_from-clause-alone
returns-in-Ok-copy_from-clause-alone g c = record {
  new = c.in_ok-made.made;
  is_new = subst (λ n. IsNew {A = Unit {0}} (Incremental DEFAULT_CHUNK) n 1 c.in_ok-made.made.store.hasher (core_of c.in_ok-made.made))
      c.len.ensures.count
      (new_with_own (Incremental DEFAULT_CHUNK) c.len.result 1 c.in-Ok.hasher c.in_ok-made.made c.in_ok-made.ensures.ok);
  cloned = c.in-Ok-copy_from.ensures.alone;
}
