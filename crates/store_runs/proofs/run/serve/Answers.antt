use Rattle.std.proofs.Common.{sym, subst}
use Rattle.store_runs.specs.Deeds.{DoesDeed, called}
use Rattle.store_runs.proofs.run.serve.Goals as goal

-- src/run.rt:20:1
pub returns-in-Post : goal.returns-in-Post
returns-in-Post g c =
    subst (λ call. DoesDeed g.D.Disk (called call c.post.result) c.args.store.now c.post.new.self) (sym c.in-Post.is) (record {
      any_moment = c.post.ensures.any_moment;
      ok = c.post.ensures.ok;
      memory = c.post.ensures.memory;
      fault = λ is. (c.post.ensures.fault is).0;
      worn = c.post.ensures.worn;
      behaves = c.post.ensures.behaves;
    })
