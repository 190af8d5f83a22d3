use Rattle.std.proofs.Common.{◌≡◌, inl, ap, ◌∙◌}
use Rattle.papaya_uses.specs.Cache.{first_of, text_in, text_of}
use Rattle.papaya_uses.proofs.CacheLemmas.{clones_at}
use Rattle.papaya_uses.proofs.cache.Cache.make_room.Goals as goal

pub returns-then-pages-self-clause-pages : goal.returns-then-pages-self-clause-pages
returns-then-pages-self-clause-pages c = λ n.
    let same : text_in c.reclaim.new.self n ≡ text_in c.self.inside.young n = clones_at c.self.inside.young c.reclaim.new.self
    c.in_ok-reclaim.ensures.clones.cloned n in
    inl (ap (λ t. first_of t (text_in c.self.inside.elder n)) same ∙ ap (λ cache. text_of cache n) c.self.view_is)
