use Rattle.cs_model.proofs.spelling.VarintLemmas.{found_all, only_of}
use Rattle.cs_model.proofs.varint.varint_read.Goals as goal

pub returns-clause-found : goal.returns-clause-found
returns-clause-found c = found_all c.args.bytes.now c.varint_first.result c.varint_first.ensures.reads

pub returns-clause-only : goal.returns-clause-only
returns-clause-only c = only_of c.args.bytes.now c.varint_first.result c.varint_first.ensures.reads
