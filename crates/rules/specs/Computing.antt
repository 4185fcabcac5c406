-- A switch for statements by computation: an `unfolding` line that names `computing` opens every definition of the rules. Assumes nothing.
use Rattle.std.specs.Prelude.{ℕ}
use Rattle.rules.specs.Systems as Systems
use Rattle.rules.specs.Scaled as Scaled
use Rattle.rules.specs.Projection as Projection
use Rattle.rules.specs.Rounding as Rounding
use Rattle.rules.specs.Points as Points
use Rattle.rules.specs.Rings as Rings
use Rattle.rules.specs.Crossing as Crossing
use Rattle.rules.specs.RingAnswers as RingAnswers
use Rattle.rules.specs.Fields as Fields
use Rattle.rules.specs.Placing as Placing
use Rattle.rules.specs.FieldAnswers as FieldAnswers
use Rattle.rules.specs.Conversion as Conversion
use Rattle.rules.specs.JobFile as JobFile
use Rattle.rules.specs.Polynomial as Polynomial

unfoldable pub computing : ℕ
unfolding Systems.constants Systems.a_coefficients Systems.b_coefficients Systems.table Systems.find Systems.system Scaled.product Scaled.quotient Scaled.raised Scaled.root_by Scaled.root Scaled.sqrt Scaled.radians Scaled.turned_to Scaled.summed Scaled.alternating Scaled.factorial Scaled.nested Scaled.sine_divisors Scaled.cosine_divisors Scaled.exponential_coefficients Scaled.hyperbolic_sine_coefficients Scaled.hyperbolic_cosine_coefficients Scaled.odd_fractions Scaled.fractions Scaled.sine Scaled.cosine Scaled.exponential Scaled.hyperbolic_sine Scaled.hyperbolic_cosine Scaled.arctan Scaled.artanh Scaled.at_52 Scaled.tan_52 Scaled.arctan_about_52 Scaled.plus Scaled.times Scaled.polynomial_from Scaled.polynomial Scaled.weighted Scaled.derivative Scaled.pair_length Scaled.direction Projection.K_of Projection.lifted Projection.sphere Projection.mercator Projection.centred Projection.N_of Projection.sphere_scale Projection.mercator_scale Projection.polynomial_scale Projection.scale_of Projection.convergence_of Projection.forward_from Projection.forward Projection.undone Projection.latitude_of Projection.inverse_from Projection.inverse Rounding.odd Rounding.nearest_to Rounding.nearest Points.above Points.latitude_bad Points.longitude_bad Points.metres_times_m0 Points.plane_bad Points.forward_checks Points.rounded Points.forward Points.m0_answered Points.inverse_checks Points.judged Points.rounded_ticks Points.inverse Points.plane_by Points.plane Rings.onward Rings.line Rings.edges Rings.edge Rings.total Rings.area_term Rings.area2 Rings.D Rings.turn Rings.turning_number Rings.between Rings.on Rings.border Rings.pairs_with Rings.pairs_from Rings.edge_pairs Rings.place Rings.inner Rings.outer Crossing.before Crossing.overlap Crossing.aside Crossing.meets Crossing.folds Crossing.bad Crossing.first_with Crossing.first_of Crossing.crossed RingAnswers.corners RingAnswers.numbers_of RingAnswers.count_bad RingAnswers.number_bad RingAnswers.corner_bad RingAnswers.any_bad RingAnswers.larger RingAnswers.smaller RingAnswers.largest RingAnswers.smallest RingAnswers.span RingAnswers.span_bad RingAnswers.ring_checks RingAnswers.not_crossed RingAnswers.area_answer RingAnswers.turning_answer RingAnswers.crossing_answer RingAnswers.nozzle RingAnswers.nozzle_answer Fields.on_any Fields.inside_any Fields.field_nozzle Placing.meets_one Placing.any_meet Placing.rings_meet Placing.first_inside Placing.first_outside Placing.entangled Placing.entangled_any Placing.misplaced FieldAnswers.inner_count_bad FieldAnswers.inner_checks FieldAnswers.placed FieldAnswers.outer_accepted FieldAnswers.inner_accepted FieldAnswers.rings_accepted FieldAnswers.summed FieldAnswers.cut FieldAnswers.field_accepted FieldAnswers.inner_read FieldAnswers.rings_read FieldAnswers.field_read FieldAnswers.accept_answer FieldAnswers.field_nozzle_answer FieldAnswers.field_position_answer FieldAnswers.join_answer Conversion.converted Conversion.conversion_by Conversion.conversion JobFile.digits_by JobFile.decimal JobFile.whole JobFile.little_endian JobFile.signed JobFile.number_at JobFile.code_of JobFile.kinds JobFile.find_kind JobFile.begun JobFile.gathered JobFile.cornered JobFile.inner_cornered JobFile.closed JobFile.inner_closed JobFile.inner_begun JobFile.queried JobFile.pointed JobFile.step JobFile.read JobFile.ending JobFile.run JobFile.job_by JobFile.job Polynomial.double_unit Polynomial.exact
computing = 0
