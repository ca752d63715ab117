use Rattle.store_runs.proofs.run.bring_in.Goals as goal

pub returns : goal.returns
returns g c = record {
  any_moment = c.bring.ensures.any_moment;
  ok = c.bring.ensures.ok;
  memory = c.bring.ensures.memory;
  fault = c.bring.ensures.fault;
  worn = c.bring.ensures.worn;
  behaves = c.bring.ensures.behaves;
}
