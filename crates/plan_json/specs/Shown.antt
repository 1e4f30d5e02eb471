-- What contracts see of a `Plan`.
use Rattle.plan_json.specs.declared.plan.Plan.TheInside.{Inside}
use Rattle.plan_json.specs.Data.{PlanData}

-- the plan in memory with its lists as plain lists
abbrev pub shown : Inside → PlanData
shown p = record {
  edition = p.edition;
  dpi = p.dpi;
  page_width = p.page_width;
  page_height = p.page_height;
  margins = p.margins;
  gutter = p.gutter;
  limit = p.limit;
  tiles = p.tiles.items;
  screens = p.screens;
  curves = p.curves;
  marks = p.marks.items;
  pages = p.pages.items;
  sections = p.sections.items;
  zones = p.zones.items;
  sites = p.sites.items;
  files = p.files.items;
}
