use Rattle.trace_text.proofs.Split.{space_of, split_only, split_read}
use Rattle.trace_text.proofs.fields.split_small.Goals as goal

pub returns-in_default-clause-only : goal.returns-in_default-clause-only
returns-in_default-clause-only c =
    λ number rest small e.
    let found = space_of c.args.text.now number rest small e in
    let none = c.in_default.ensures in
    cc

pub returns-in_default-read_small-clause-only : goal.returns-in_default-read_small-clause-only
returns-in_default-read_small-clause-only c =
    λ number rest small e.
    let parts = split_only c.args.text.now c.in-Some.end number rest c.in-Some.ensures small e in
    let some = c.read_small.ensures.only number small parts.0 in
    let none = c.in_default-read_small.is in
    cc

pub returns-clause-read : goal.returns-clause-read
returns-clause-read c =
    split_read c.args.text.now c.in-Some.end c.in-Some-read_small.number c.in-Some.ensures c.in-Some-read_small.ensures.read

pub returns-clause-only : goal.returns-clause-only
returns-clause-only c =
    λ number rest small e.
    let parts = split_only c.args.text.now c.in-Some.end number rest c.in-Some.ensures small e in
    let some = c.read_small.ensures.only number small parts.0 in
    let is = c.in-Some-read_small.is in
    (cc, parts.1)
