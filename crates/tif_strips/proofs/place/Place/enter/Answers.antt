use Rattle.std.proofs.Common.{◌∙◌}
use Rattle.tif_strips.proofs.Places.{IsPlace-begin, begun_rows, begun_within, map-drop-none}
use Rattle.tif_strips.proofs.place.Place.enter.Goals as goal

pub begin-self-requires-clause-within : goal.begin-self-requires-clause-within
begin-self-requires-clause-within c = begun_within c.args.table.now c.args.self.now c.requires.place c.if-self-eq0.true c.requires.left

pub begin-self-requires-clause-above : goal.begin-self-requires-clause-above
begin-self-requires-clause-above c = begun_rows c.args.table.now c.args.self.now c.requires.place c.if-self-eq0.true c.requires.left

pub strip_rows-self-requires-clause-within : goal.strip_rows-self-requires-clause-within
strip_rows-self-requires-clause-within c =
    rw c.shape.ensures.shape (begun_within c.args.table.now c.args.self.now c.requires.place c.if-self-eq0.true c.requires.left)

pub returns-then-self-eq0-clause-place : goal.returns-then-self-eq0-clause-place
returns-then-self-eq0-clause-place c =
    (IsPlace-begin c.args.table.now c.args.self.now c.begin-self.result c.strip_rows-self.result c.requires.place c.if-self-eq0.true c.requires.left (c.begin-self.ensures ∙ map-drop-none _ _)
    (rw c.shape.ensures.shape at c.strip_rows-self.ensures.rows)).0

pub returns-then-self-eq0-clause-rows : goal.returns-then-self-eq0-clause-rows
returns-then-self-eq0-clause-rows c =
    (IsPlace-begin c.args.table.now c.args.self.now c.begin-self.result c.strip_rows-self.result c.requires.place c.if-self-eq0.true c.requires.left (c.begin-self.ensures ∙ map-drop-none _ _)
    (rw c.shape.ensures.shape at c.strip_rows-self.ensures.rows)).1
