use Rattle.pr_rack.specs.Told.{told}
use Rattle.site_agent.proofs.Drawing.{frame-taken, kept-draws, side-taken}
use Rattle.site_agent.proofs.site.Site.draw.Goals as goal

pub keep-kept-requires-clause-frame : goal.keep-kept-requires-clause-frame
keep-kept-requires-clause-frame g c =
    frame-taken c.args.self.now.job c.args.reader.now.ring c.args.reader.now.cursor c.in_ok-held.held.bytes c.requires.ready.rows c.in_ok-held.ensures.row.row.bytes

pub keep-kept-requires-clause-row : goal.keep-kept-requires-clause-row
keep-kept-requires-clause-row g c =
    side-taken c.args.self.now.job c.args.reader.now.ring c.args.reader.now.cursor c.in_ok-held.held.bytes c.requires.ready.rows c.in_ok-held.ensures.row.row.bytes

pub returns : goal.returns
returns g c =
    kept-draws c.args.self.now c.keep-kept.new.self c.args.reader.now c.open.new.self c.close.new.self c.in_ok-held.held (told g.R.Rack c.args.rack.now) (told g.R.Rack c.keep-kept.new.rack) c.keep-kept.result
    c.requires.ready c.in_ok-held.ensures.row c.open.ensures.looks c.close.ensures
    (record {
      keeps = c.keep-kept.ensures.keeps;
      goes_on = c.keep-kept.ensures.goes_on;
      begun_on = c.keep-kept.ensures.begun_on;
      working_on = c.keep-kept.ensures.working_on;
      done_missed = c.keep-kept.ensures.done_missed;
      passes = c.keep-kept.ensures.passes;
      left = c.keep-kept.ensures.left;
      left_counted = c.keep-kept.ensures.left_counted;
      left_missed = c.keep-kept.ensures.left_missed;
      left_taken = c.keep-kept.ensures.left_taken;
      memory_missed = c.keep-kept.ensures.memory_missed;
      memory_taken = c.keep-kept.ensures.memory_taken;
      finished_stay = c.keep-kept.ensures.finished_stay;
      others_stay = c.keep-kept.ensures.others_stay;
      ended = c.keep-kept.ensures.ended;
      faults_stay = c.keep-kept.ensures.faults_stay;
    })
