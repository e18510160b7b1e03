use Rattle.std.proofs.Common.{◌≡◌, ◌≤◌, ◌<◌, ◌*◌, ◌-◌, ℕ, get_or}
use Rattle.cs_parse.specs.Reading.{number_at}
use Rattle.cs_parse.proofs.number.number_of.Given as goal

abbrev pub invariant-loop-read : goal.invariant-loop-read
invariant-loop-read l = record {
  fits : (i : ℕ) → get_or l.rest i 0 < 256;
  low : 128 * l.high ≤ l.most;
  reads : number_at l.least l.most l.kind (8 - l.read) l.high l.rest ≡ number_at l.least l.most l.kind 8 0 l.bytes;
}
