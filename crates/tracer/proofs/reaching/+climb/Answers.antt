-- Each call is of the main side, which lies one less deep; the first coupler of the way up is the line's own.
use mathlib.Core.Bool.{false}
use mathlib.Core.List.{[]}
use mathlib.Core.Path.{refl}
use native.Mathlib.Omega.{arith}
use lib.ListN.{get_or}
use Rattle.tracer.proofs.ReachingLaws.{handed-most, climb-none, climb-less, climb-on, climb-more}
use Rattle.tracer.proofs.reaching.+climb.Goals as goal

pub returns-then-from-top : goal.returns-then-from-top
returns-then-from-top t c = rw (climb-none c.if-from-top.true) refl

pub climb-requires : goal.climb-requires
climb-requires t c =
    let d = c.if-from-top.false in
    let less = climb-less d c.requires.0 c.main_side.ensures in
    let most = handed-most c.args.count c.args.lines (get_or (get_or c.args.passing.now c.args.from []) 1 false) in
    (omega (arith, less, c.decreases), (climb-on d c.requires.0 c.main_side.ensures, omega (arith, less, c.requires.1, c.hand-lines.ensures, most)))

pub returns : goal.returns
returns t c =
    climb-more c.if-from-top.false c.requires.0 c.main_side.ensures c.args.passing.now c.args.count c.args.lines c.hand-lines.ensures c.climb.ensures
