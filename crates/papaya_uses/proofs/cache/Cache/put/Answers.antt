use Rattle.std.proofs.Common.{inl, ap, sym, subst}
use Rattle.papaya_uses.specs.Cache.{StaysOrGoes, text_of}
use Rattle.papaya_uses.proofs.CacheLemmas.{other_than, put_keeps, refusal_keeps, still_goes}
use Rattle.papaya_uses.proofs.cache.Cache.put.Goals.{then-stored-self+in_ok-make_room, else-stored-self}
use Rattle.papaya_uses.proofs.cache.Cache.put.Goals as goal

pub returns-in_err-put-clause-others : goal.returns-in_err-put-clause-others
returns-in_err-put-clause-others c = λ n way.
    let mid : StaysOrGoes c.args.self.now c.if-stored-self.self n = elim c.if-stored-self.branch [
      | then-stored-self+in_ok-make_room w ↦ subst (λ cache. StaysOrGoes c.args.self.now cache n) (sym w.self-is) (w.make_room.ensures.pages n)
      | else-stored-self w ↦ inl (ap (λ cache. text_of cache n) w.self-is)
    ] in
    still_goes c.args.self.now c.if-stored-self.self c.self-2.inside.young c.self-2.inside.elder c.put.new.self c.self-2.inside.limit n mid c.self-2.view_is
    (refusal_keeps c.self-2.inside.young c.put.new.self n c.args.page c.args.text _ c.in_err-put.ensures.puts)

pub returns-clause-others : goal.returns-clause-others
returns-clause-others c = λ n way.
    let mid : StaysOrGoes c.args.self.now c.if-stored-self.self n = elim c.if-stored-self.branch [
      | then-stored-self+in_ok-make_room w ↦ subst (λ cache. StaysOrGoes c.args.self.now cache n) (sym w.self-is) (w.make_room.ensures.pages n)
      | else-stored-self w ↦ inl (ap (λ cache. text_of cache n) w.self-is)
    ] in
    still_goes c.args.self.now c.if-stored-self.self c.self-2.inside.young c.self-2.inside.elder c.put.new.self c.self-2.inside.limit n mid c.self-2.view_is
    (put_keeps c.self-2.inside.young c.put.new.self n c.args.page c.args.text _ c.in_ok-put.ensures.puts (other_than n c.args.page way))
