use Rattle.std.proofs.Common.{◌+◌, ◌≤◌, ◌++◌, length, refl, ap, ◌∙◌, arith}
use Rattle.byte_strings.proofs.Padding.{length_used, written_front, written_rest, written_length}
use Rattle.byte_strings.proofs.fixed.FixedBytes.append.Goals as goal

pub overwrite-requires : goal.overwrite-requires
overwrite-requires g c = let h = c.self.invariant in omega (arith, h.0, h.2)

pub invariant_of-self : goal.invariant_of-self
invariant_of-self g c =
    let s = c.self.inside in
    let bs = c.args.bytes.now in
    let out = c.overwrite.new.buffer in
    let h = c.self.invariant in
    let fits : s.len + length bs ≤ g.row.N = omega (arith, h.0) in (
      fits,
      written_rest g.row.N s.len s.bytes bs out fits h.2 h.1 c.overwrite.ensures,
      written_length g.row.N s.len s.bytes bs out fits h.2 h.1 c.overwrite.ensures,
    )

pub returns : goal.returns
returns g c =
    let s = c.self.inside in
    let bs = c.args.bytes.now in
    let h = c.self.invariant in
    let fits : s.len + length bs ≤ g.row.N = omega (arith, h.0) in
    let front = written_front g.row.N s.len s.bytes bs c.overwrite.new.buffer fits h.2 h.1 c.overwrite.ensures in
    let held = length_used g.row.N s.len s.bytes _ h.0 h.2 c.self.view_is in
    record {
      room = (λ _. omega (arith, held), λ _. refl);
      appended = front ∙ ap (λ xs. xs ++ bs) c.self.view_is;
      unchanged = tt;
    }
