-- refine.rs, where a probe of an edge looks (527 to 556). Definitions only, to be believed.
use Rattle.std.specs.Prelude.{Float}
use Rattle.std.specs.Float.{binary64}
use Rattle.ieee_root.specs.Root.{root}
use Rattle.ieee.specs.Floats.{◌⊕◌, ◌⊖◌, ◌⊗◌, ◌⊘◌, float, f0, f1, f½}
use Rattle.pixel.specs.Pixels.{source, direction}
use Rattle.pixel.specs.declared.SourcePixel.{SourcePixel}
use Rattle.homography.specs.Homography.{map_point}
use Rattle.probes.specs.declared.Probe.{Probe}
use Rattle.grid.specs.declared.LabelEdge.{LabelEdge}
use Rattle.grid.specs.Grids.{edge_of, by_side}
use Rattle.probe.specs.declared.Plan.{Plan}
use Rattle.probe.specs.declared.Side.{Side}
use Rattle.probe.specs.declared.ProbeRay.{ProbeRay}

-- a point of the unit square, t along an edge: at the top and the left `near` from the side, at the other two `far` from the opposite one
abbrev pub point_on_side : LabelEdge → Float → Float → Float → SourcePixel
point_on_side e near far t = by_side e (source t near) (source far t) (source t far) (source near t)

-- the boundary point of the unit square, and the point one module further in
abbrev pub boundary : LabelEdge → Float → SourcePixel
boundary e t = point_on_side e f0 f1 t

abbrev pub inward : LabelEdge → Float → Float → SourcePixel
inward e inv_dim t = point_on_side e inv_dim (f1 ⊖ inv_dim) t

-- where a probe looks: outwards from the point one module further in, by steps of half that length, the local module
abbrev pub probe_ray : Plan → Side → Probe → ProbeRay
probe_ray p side at =
    let e = edge_of side.edge in
    let b = boundary e at.t in
    let i = inward e (f1 ⊘ float p.dim) at.t in
    let coarse = map_point side.map b.0 b.1 in
    let inner = map_point side.map i.0 i.1 in
    let ox = coarse.0 ⊖ inner.0 in
    let oy = coarse.1 ⊖ inner.1 in
    let perp_module = root binary64 (ox ⊗ ox ⊕ oy ⊗ oy) in
    record {
      perp_module_px = perp_module;
      ray = record {
        coarse = coarse;
        normal = direction (ox ⊘ perp_module) (oy ⊘ perp_module);
        step = f½ ⊗ perp_module;
        inverted = p.inverted;
        inward_differs = at.inward_differs;
      };
    }
